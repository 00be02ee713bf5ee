-- The root of container's definitions.
pub mod Sections
