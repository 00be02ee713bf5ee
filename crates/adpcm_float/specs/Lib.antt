-- The root of adpcm_float's definitions.
pub mod Powers
pub mod Floating
pub mod Examples
