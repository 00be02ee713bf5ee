-- `Laws` and `NearestLaws` are for callers, and `Examples` computes the definitions at their edges. The others are what the proofs of several functions share.
pub mod Laws
pub mod NearestLaws
pub mod Examples
pub mod Tests
pub mod Sign
pub mod Value
pub mod Rounding
pub mod Narrow
pub mod Integers
pub mod Halves
