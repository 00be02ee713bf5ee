-- The root of checking's definitions.
pub mod Joining
pub mod Checks
