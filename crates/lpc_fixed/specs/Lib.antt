-- The root of lpc_fixed's definitions.
pub mod Values
pub mod Window
