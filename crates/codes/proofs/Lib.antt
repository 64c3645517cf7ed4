-- The laws of the code rules, for the proofs of this crate and of those above it.
pub mod Tests
pub mod Rows
pub mod Leaves
pub mod Refused
pub mod Factors
pub mod Parts
pub mod Allocations
