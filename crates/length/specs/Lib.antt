pub mod Length
pub mod Theorems
