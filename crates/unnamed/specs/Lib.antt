-- The root of unnamed's definitions.
pub mod Kept
pub mod Claims
