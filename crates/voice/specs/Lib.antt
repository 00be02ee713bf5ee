-- The root of voice's definitions.
pub mod Header
pub mod Voice
pub mod Periods
pub mod Opening
pub mod Extends
