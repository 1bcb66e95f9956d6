pub mod Records
pub mod Holding
pub mod Looking
pub mod Rows
pub mod Ready
pub mod Listed
pub mod Exact
