-- The laws of read sync: which candidate leads, and the scores by rows of the allocation table.
pub mod Leading
pub mod Leaders
pub mod SumLeaders
pub mod Halves
pub mod Shares
pub mod Rows
pub mod Sets
pub mod Cases
