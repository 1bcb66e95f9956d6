pub mod Numbers
pub mod Names
pub mod Steps
pub mod Exact
pub mod Same
