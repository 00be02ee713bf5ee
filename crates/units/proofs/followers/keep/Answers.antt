use native.Mathlib.Omega.{arith}
use Rattle.units.proofs.SampleLaws.{kept-none, kept-stored}
use Rattle.units.proofs.followers.keep.Goals as goal

pub returns-then-number-lt4096 : goal.returns-then-number-lt4096
returns-then-number-lt4096 c = let a = c.args in kept-stored a.number a.at a.sampled.now (omega arith)

pub returns-else-number-eq0 : goal.returns-else-number-eq0
returns-else-number-eq0 c = kept-none _ _ _
