-- The root of transcript's definitions.
pub mod CallText
pub mod Program
