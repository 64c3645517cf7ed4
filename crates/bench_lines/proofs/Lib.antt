pub mod Draws
pub mod States
