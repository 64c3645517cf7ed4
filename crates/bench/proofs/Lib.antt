pub mod Accepted
pub mod Opened
pub mod Loading
pub mod Plans
