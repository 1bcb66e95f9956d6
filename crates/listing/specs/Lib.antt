pub mod Listing
pub mod Private
