-- Laws for the opening.
pub mod IndexLaws
