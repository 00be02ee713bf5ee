-- The root of marks' definitions.
pub mod PitchMarks
pub mod NaturalMarks
pub mod Walking
pub mod Checking
pub mod Rising
