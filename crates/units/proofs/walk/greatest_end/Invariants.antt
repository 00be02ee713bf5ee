use Prim.Native.Nat.{◌+◌}
use mathlib.Core.Path.{◌≡◌}
use Rattle.units.specs.Walking.{Walking}
use Rattle.units.proofs.EndLaws.{Greatest}
use Rattle.units.proofs.walk.greatest_end.Given as goal

abbrev pub invariant-loop : goal.invariant-loop
invariant-loop l = Walking l.sheet l.count l.walk × (Greatest l.sheet l.rate l.count l.walk l.greatest × (l.walk.remaining + l.counter ≡ l.count))
