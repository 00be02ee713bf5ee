use Prim.Native.Nat.{◌+◌, ◌-◌, ◌≤◌}
use mathlib.Core.Path.{◌≡◌}
use lib.ListN.{length, drop}
use Rattle.text.specs.Trim.{space_at, trim_start}
use Rattle.text.proofs.trim.skip.Given as goal

abbrev pub invariant-loop-n : goal.invariant-loop-n
invariant-loop-n l = (l.n ≡ space_at (drop l.at l.s)) × ((l.at + l.n ≤ length l.s) × (trim_start (drop l.at l.s) ≡ trim_start (drop l.from l.s)))

abbrev pub decreases-loop-n : goal.decreases-loop-n
decreases-loop-n l = length l.s - l.at
