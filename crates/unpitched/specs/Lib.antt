-- The root of unpitched's definitions.
pub mod Boxes
pub mod Claims
pub mod Examples
