pub mod Pasted
pub mod Copied
