pub mod Reader
pub mod Private
