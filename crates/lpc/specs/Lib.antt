-- The root of lpc's definitions.
pub mod Filter
pub mod Fixed
pub mod Floating
pub mod Ring
pub mod Sums
pub mod State
pub mod Ready
