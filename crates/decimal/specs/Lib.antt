-- The root of decimal's definitions.
pub mod Decimal
pub mod Reading
pub mod Examples
