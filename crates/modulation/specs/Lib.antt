pub mod Symbols
pub mod Nodes
pub mod SixteenChips
pub mod Modulated
pub mod Levels
