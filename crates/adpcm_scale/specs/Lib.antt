-- The root of adpcm_scale's definitions.
pub mod Scale
pub mod Words
