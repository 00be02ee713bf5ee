use mathlib.Core.Path.{◌≡◌}
use Prim.Native.Nat.{◌+◌, ◌*◌}
use Rattle.units.specs.Walking.{Walking}
use Rattle.units.proofs.followers.name_near.Given as goal

abbrev pub invariant-loop : goal.invariant-loop
invariant-loop l = Walking l.sheet l.count l.walk × (16 * l.from + l.counter + (l.walk.remaining + 1) ≡ l.count)
