-- The laws of hard bits.
pub mod Pairs
