-- The root of phoneset's definitions.
pub mod Phones
