pub mod Arithmetic
pub mod Buffers
pub mod Fits
