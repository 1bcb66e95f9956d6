pub mod Number
pub mod Compared
