use Rattle.units.proofs.WalkLaws.{starts-walk}
use native.Mathlib.Omega.{arith}
use Rattle.units.proofs.walk.walk_at.Goals as goal

pub walk_from-requires : goal.walk_from-requires
walk_from-requires c = (c.requires.0.ahead, omega (arith, c.requires.1))

pub returns : goal.returns
returns c = starts-walk _ _ _ _ c.requires.0 c.requires.1 _ c.walk_from.ensures
