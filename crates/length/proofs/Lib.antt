pub mod Sums
pub mod Written
