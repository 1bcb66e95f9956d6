pub mod Rows
pub mod Writing
pub mod Refusals
pub mod State
pub mod Run
pub mod Theorems
