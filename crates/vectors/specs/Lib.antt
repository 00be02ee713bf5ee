-- The root of vectors' definitions.
pub mod Tallies
pub mod Vectors
