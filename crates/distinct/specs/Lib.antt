-- The root of distinct's definitions.
pub mod Blocks
