-- The root of report's definitions.
pub mod ReportText
pub mod Packed
pub mod Examples
