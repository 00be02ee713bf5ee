-- The root of excitation's definitions.
pub mod Source
pub mod Nearest
pub mod Shares
pub mod Makers
pub mod Taken
