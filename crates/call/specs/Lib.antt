-- The root of the call's definitions.
pub mod Call
pub mod Numbers
pub mod Buffers
pub mod Pull
pub mod Machine
pub mod SpokenCall
