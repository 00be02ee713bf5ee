use mathlib.Core.Path.{◌≡◌}
use Prim.Native.Nat.{◌+◌}
use Rattle.units.specs.Walking.{Walking, Sampled}
use Rattle.units.proofs.followers.sample.Given as goal

abbrev pub invariant-loop-number : goal.invariant-loop-number
invariant-loop-number l = Walking l.sheet l.count l.walk × (Sampled l.sheet l.count l.sampled × (l.walk.remaining + l.number ≡ l.count))
