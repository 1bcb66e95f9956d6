pub mod Rfc3629
pub mod Walk
pub mod Kept
pub mod Theorems
pub mod States
pub mod Colons
pub mod Private
