pub mod Pasted
pub mod Private
