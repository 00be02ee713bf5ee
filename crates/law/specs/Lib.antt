-- The root of law's definitions.
pub mod Longer
pub mod TwoCalls
pub mod Made
pub mod MadeInC
pub mod Demand3
