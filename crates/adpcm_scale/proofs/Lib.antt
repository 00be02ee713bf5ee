-- Laws about the tables and the scale.
pub mod ScaleLaws
