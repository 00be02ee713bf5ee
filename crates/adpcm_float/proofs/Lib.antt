-- Laws about the powers of two, which are computed at their edges too, and about the floating format.
pub mod PowerLaws
pub mod FloatLaws
pub mod Computed
