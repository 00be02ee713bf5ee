-- The root of lines' definitions.
pub mod Lines
