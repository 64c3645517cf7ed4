pub mod Finding
pub mod PeakSearch
pub mod Searching
