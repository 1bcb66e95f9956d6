pub mod Storing
pub mod Private
pub mod Output
