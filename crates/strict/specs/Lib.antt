-- The root of strict's definitions.
pub mod Pairs
pub mod Claims
pub mod Examples
