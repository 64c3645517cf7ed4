pub mod Noise
pub mod Room
