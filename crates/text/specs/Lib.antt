-- The root of text's definitions.
pub mod Names
pub mod Utf8
pub mod Trim
