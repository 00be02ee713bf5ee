use mathlib.Core.Path.{◌≡◌}
use Prim.Native.Nat.{◌-◌, ◌≤◌}
use lib.ListN.{drop}
use Rattle.index.specs.Index.{ascending}
use Rattle.index.specs.Shuffle.{Shuffled}
use Rattle.index.proofs.is_ordered.Given as goal

abbrev pub invariant-loop-i : goal.invariant-loop-i
invariant-loop-i l = (1 ≤ l.i) × ((s : Shuffled l.entries l.count l.base l.index l.index) → ascending (drop (l.i - 1) s.places) ≡ ascending s.places)
