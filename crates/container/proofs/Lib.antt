-- Laws about container's definitions.
pub mod SectionLaws
pub mod BackendLaws
