use mathlib.Core.Path.{◌≡◌}
use Prim.Native.Nat.{◌+◌, ◌/◌, ◌≤◌, max}
use lib.ListN.{length, drop}
use Rattle.base.specs.Bytes.{elements}
use Rattle.excitation.specs.Shares.{up_to_end}
use Rattle.taking.proofs.marks_up_to_end.Given as goal

abbrev pub invariant-loop-end : goal.invariant-loop-end
invariant-loop-end l =
    (l.taken ≤ l.end) × ((l.taken + up_to_end l.unit (drop l.taken (elements 4 l.marks)) ≡ l.end + up_to_end l.unit (drop l.end (elements 4 l.marks))) × (l.end ≤ max l.taken (length l.marks / 4)))
