pub mod Rows
pub mod Stored
pub mod Entries
pub mod Passes
