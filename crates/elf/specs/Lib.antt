pub mod Elf
pub mod Finding
pub mod Find
pub mod Reads
pub mod Theorems
