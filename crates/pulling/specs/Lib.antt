-- The root of pulling's definitions.
pub mod Pulling
