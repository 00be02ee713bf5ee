-- The root of filling's definitions.
pub mod Filling
