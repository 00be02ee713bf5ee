-- Laws about text's definitions.
pub mod NameLaws
pub mod Utf8Laws
pub mod TrimLaws
