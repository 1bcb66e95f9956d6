pub mod SqlText
pub mod Theorems
pub mod Private
