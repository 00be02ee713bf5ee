-- The root of pairs' definitions.
pub mod Pairs
pub mod Examples
