pub mod Ordering
pub mod Swaps
pub mod Count
pub mod OneByOne
