-- The root of c_state's definitions.
pub mod State
