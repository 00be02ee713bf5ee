use Rattle.index.proofs.WalkLaws.{name-part}
use native.Mathlib.Omega.{arith}
use Rattle.index.proofs.name_at.Goals as goal

pub returns : goal.returns
returns c = name-part _ _ _ (omega arith)
