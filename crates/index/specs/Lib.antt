-- The root of index's definitions.
pub mod Index
pub mod Shuffle
