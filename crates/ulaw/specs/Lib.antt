-- The root of ulaw's definitions.
pub mod Ulaw
