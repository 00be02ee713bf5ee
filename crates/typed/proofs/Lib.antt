-- Times typed as text: all that is claimed of them holds.
pub mod SteadyLaws
pub mod FloatLaws
pub mod ReadLaws
pub mod Typed
pub mod Computed
