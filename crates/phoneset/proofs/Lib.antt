-- Laws about phoneset's definitions.
pub mod NameLaws
