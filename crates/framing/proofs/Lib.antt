pub mod Framing
pub mod Entries
pub mod Refusals
pub mod Padding
pub mod Sentinel
pub mod Sentinels
