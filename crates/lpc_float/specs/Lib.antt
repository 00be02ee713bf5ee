-- The root of lpc_float's definitions.
pub mod Values
