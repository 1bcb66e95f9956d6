pub mod Exact
pub mod Kept
pub mod Codes
pub mod Table
pub mod Blocks
pub mod Words
pub mod Colons
