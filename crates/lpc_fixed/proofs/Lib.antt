-- Laws about the fixed filter's words.
pub mod SumLaws
pub mod ValueLaws
pub mod WindowLaws
pub mod NextLaws
