-- The laws that the analyser's calls share.
pub mod Ranges
pub mod Smallest
pub mod Choosing
pub mod Bounds
pub mod Products
pub mod Correlations
pub mod Steps
