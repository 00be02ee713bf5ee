-- The root of adpcm's definitions.
pub mod Decoder
pub mod Words
