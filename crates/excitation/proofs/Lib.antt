-- Laws about excitation's definitions.
pub mod ShareLaws
pub mod OwnLaws
pub mod TakenLaws
pub mod SizedLaws
pub mod WindowLaws
pub mod CountLaws
