-- Laws about sheet's definitions.
pub mod SheetLaws
pub mod AnswerLaws
pub mod NumberLaws
pub mod NameLaws
pub mod FiniteLaws
pub mod ValueLaws
pub mod ItemLaws
pub mod PlaceLaws
pub mod SuffixLaws
pub mod WalkLaws
pub mod ReadLaws
pub mod FollowerLaws
