pub mod State
pub mod Run
pub mod Answered
pub mod Theorems
