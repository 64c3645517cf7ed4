pub mod Bits
pub mod OpenCodes
pub mod PairChanges
