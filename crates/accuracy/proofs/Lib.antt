-- A14: what comes back for a magnitude and for a sample, the claims, and where the bounds are reached.
pub mod Rounding
pub mod Magnitudes
pub mod Samples
pub mod Distances
pub mod Accuracy
pub mod Reached
