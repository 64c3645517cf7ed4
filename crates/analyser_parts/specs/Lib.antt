pub mod Choice
pub mod Components
pub mod Correlation
pub mod Peaks
pub mod PartSums
