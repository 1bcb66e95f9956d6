pub mod Still
pub mod Table
pub mod Reading
pub mod Result
pub mod Answered
