pub mod Form
pub mod Writing
pub mod Theorems
pub mod Private
