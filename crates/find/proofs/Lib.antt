-- The laws of find: the correlation by Golay's steps, and the largest size by blocks.
pub mod Golay
pub mod Blocks
