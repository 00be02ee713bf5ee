-- The root of float's definitions.
pub mod Casts
pub mod Distance
pub mod Nearest
