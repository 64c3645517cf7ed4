-- The laws of modulation, for the proofs of this crate and of those above it.
pub mod Blocks
pub mod Levels
pub mod Terms
pub mod Climbing
pub mod BurstParts
pub mod ScramblingSigns
