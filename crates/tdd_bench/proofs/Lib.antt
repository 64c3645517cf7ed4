pub mod Results
pub mod Accepted
pub mod Kept
