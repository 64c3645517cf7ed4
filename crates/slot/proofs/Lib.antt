-- The laws of the slot, for the proofs of this crate and of those above it.
pub mod BurstPlace
pub mod BurstBlocks
pub mod Pieces
pub mod Lengths
pub mod Places
pub mod Viewed
pub mod FieldBlocks
pub mod Halves
pub mod Written
