pub mod Cleared
pub mod Rows
