pub mod Decoded
pub mod Leaves
