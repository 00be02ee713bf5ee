use mathlib.Core.Path.{sym, ◌∙◌}
use mathlib.Core.Bool.{true≢false}
use Rattle.distinct.proofs.NeighbourLaws.{neighbours-twice}
use native.Mathlib.Omega.{arith}
use Rattle.distinct.proofs.neighbours_agree.Goals as goal

pub loop-i-init : goal.loop-i-init
loop-i-init c = omega arith

pub names_agree-requires : goal.names_agree-requires
names_agree-requires c = (c.requires, (omega arith, omega arith))

pub returns-then-names_agree : goal.returns-then-names_agree
returns-then-names_agree c e =
    neighbours-twice _ _ _ c.requires _ c.loop-i.invariant (omega arith) (sym c.names_agree.ensures ∙ c.if-names_agree.true)

pub loop-i-preserved : goal.loop-i-preserved
loop-i-preserved c = omega arith

pub returns : goal.returns
returns c e = absurd (true≢false (sym e))
