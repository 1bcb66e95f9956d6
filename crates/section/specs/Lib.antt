pub mod Derivation
pub mod Refusals
pub mod Section
pub mod Entry
pub mod Demand3
pub mod Rest
pub mod Theorems
pub mod Private
