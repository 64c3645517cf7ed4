-- The laws for the proofs of this crate.
pub mod Digits
