-- What a turn of the decoder's loop keeps.
pub mod Turns
