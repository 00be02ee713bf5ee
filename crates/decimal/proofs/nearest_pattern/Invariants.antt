use Prim.Native.Nat.{◌-◌, ◌*◌, ◌^◌, ◌≤◌, ◌<◌}
use Rattle.decimal.proofs.Scaling.{Scaled}
use Rattle.decimal.proofs.nearest_pattern.Given as goal

-- `decimal::nearest_pattern` meets its contract. Through both loops num / den stays n / u * 2 ^ (k - 149).
abbrev pub invariant-loop-n : goal.invariant-loop-n
invariant-loop-n l = Scaled l.num l.den l.n l.u l.k × (0 < l.n) × (l.n < 2 ^ 61)

abbrev pub decreases-loop-n : goal.decreases-loop-n
decreases-loop-n l = l.u * 2 ^ 23 - l.n

abbrev pub invariant-loop-u : goal.invariant-loop-u
invariant-loop-u l = Scaled l.num l.den l.n l.u l.k × (0 < l.u) × (2 ^ 23 * l.u ≤ l.n) × (l.n < 2 ^ 61)

abbrev pub decreases-loop-u : goal.decreases-loop-u
decreases-loop-u l = l.n - l.u
