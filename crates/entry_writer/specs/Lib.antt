pub mod EntryWriter
pub mod Private
