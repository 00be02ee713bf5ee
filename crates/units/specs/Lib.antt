-- The root of units' definitions.
pub mod Selecting
pub mod Units
pub mod Asked
pub mod Walking
