pub mod Fields
pub mod Walk
pub mod Few
pub mod Places
pub mod Report
pub mod ByKind
pub mod Exact
