-- Laws about the call's definitions.
pub mod NumberLaws
pub mod PullLaws
pub mod MachineLaws
pub mod CallLaws
pub mod CheckLaws
pub mod FilledLaws
pub mod FewLaws
pub mod SpokenLaws
pub mod LentLaws
