-- The laws of whole and complex numbers, for the proofs of this crate and of those above it.
pub mod Integers
pub mod Order
pub mod Sizes
pub mod Machine
pub mod Ring
pub mod Rotations
pub mod Sums
pub mod Components
pub mod Lists
pub mod Bounds
pub mod Stored
pub mod Blocks
pub mod Calls
