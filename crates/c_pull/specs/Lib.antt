-- The root of c_pull's definitions.
pub mod Pull
