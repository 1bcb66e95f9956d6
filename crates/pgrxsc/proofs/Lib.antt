pub mod Numbers
pub mod Texts
