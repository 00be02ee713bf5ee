-- The root of c_open's definitions.
pub mod Open
