pub mod Setup
pub mod Slot
pub mod View
pub mod FieldBlocks
pub mod Sent
