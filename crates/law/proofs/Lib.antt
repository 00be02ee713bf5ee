-- Demand 3: it holds of all calls and pulls that were made, and such are made after every spoken call.
pub mod Lends
pub mod InC
pub mod Inhabited
pub mod InhabitedInC
pub mod TwoCalls
pub mod Demand3
