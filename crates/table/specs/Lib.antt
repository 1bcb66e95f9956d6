pub mod Table
pub mod Answers
