-- The root of adpcm_predict's definitions.
pub mod Predictor
