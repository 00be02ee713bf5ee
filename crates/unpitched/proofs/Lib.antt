-- A target without a pitch: all that is claimed of it holds.
pub mod BoxLaws
pub mod AlikeLaws
pub mod Unpitched
pub mod Computed
