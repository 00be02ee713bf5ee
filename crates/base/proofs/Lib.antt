-- Laws about base's definitions, for the proofs of every crate.
pub mod CaseLaws
pub mod ListLaws
pub mod BufferLaws
pub mod BoundLaws
pub mod ByteLaws
pub mod WordLaws
pub mod TableLaws
pub mod PermLaws
pub mod ResultLaws
