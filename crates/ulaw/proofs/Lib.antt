-- Laws about ulaw's definitions, and what its functions need of signed integers.
pub mod Intervals
pub mod Segments
pub mod Signs
