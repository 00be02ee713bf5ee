-- Laws about decimal's definitions, and these computed at their edges.
pub mod DigitLaws
pub mod TextLaws
pub mod Scaling
pub mod Laws
pub mod Computed
