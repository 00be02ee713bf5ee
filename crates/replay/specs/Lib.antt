-- The root of replay's definitions.
pub mod Stored
pub mod Tallies
