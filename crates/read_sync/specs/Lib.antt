pub mod SyncReading
pub mod Shares
pub mod Leaders
pub mod Cases
pub mod Searching
