pub mod Directory
pub mod Holder
pub mod Exact
pub mod Theorems
pub mod Private
