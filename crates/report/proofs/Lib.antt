-- The root of report's laws.
pub mod TextLaws
pub mod PackedLaws
pub mod HandedLaws
pub mod Examples
