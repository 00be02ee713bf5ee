-- The root of taking's definitions.
pub mod Taking
