-- The root of probe's definitions.
pub mod Filters
