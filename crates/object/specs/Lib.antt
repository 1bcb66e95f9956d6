pub mod Object
pub mod Theorems
