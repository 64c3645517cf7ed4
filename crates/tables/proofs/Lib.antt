-- The laws of the tables, for the proofs of this crate and of those above it.
pub mod Blocks
pub mod Entries
pub mod Cleared
