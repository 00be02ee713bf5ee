-- The root of typed's definitions.
pub mod Floats
pub mod Claims
pub mod Examples
