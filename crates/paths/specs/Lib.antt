pub mod Paths
pub mod Repeats
pub mod Theorems
pub mod Private
