-- The root of base's definitions. The laws about them are in proofs/.
pub mod Choice
pub mod Text
pub mod Lists
pub mod Spans
pub mod Buffers
pub mod Bytes
pub mod Words
pub mod Tables
pub mod Perm
