-- The root of refusal's definitions.
pub mod Number
