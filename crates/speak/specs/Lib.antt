-- The root of speak's definitions.
pub mod Speaking
