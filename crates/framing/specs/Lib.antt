pub mod Entries
pub mod Framing
pub mod Refusals
pub mod Answers
pub mod Places
pub mod Theorems
