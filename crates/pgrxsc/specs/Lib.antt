pub mod Version
pub mod Theorems
