-- Laws about marks' definitions.
pub mod MarkLaws
pub mod CountLaws
pub mod LimitLaws
pub mod FiniteLaws
pub mod WalkLaws
pub mod UpToLaws
pub mod CheckLaws
pub mod StoreLaws
pub mod UnitLaws
pub mod JoinLaws
pub mod TimeLaws
pub mod RiseLaws
