-- Laws for the steps of a pull.
pub mod PullingLaws
