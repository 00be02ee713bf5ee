use mathlib.Core.Path.{◌≡◌}
use Prim.Native.Nat.{◌-◌, ◌*◌, ◌<◌, ◌≤◌}
use lib.ListN.{drop}
use Rattle.voice.specs.Voice.{entries_from, lookup}
use Rattle.sparse.proofs.nearest_place.Given as goal

abbrev pub invariant-loop-hi : goal.invariant-loop-hi
invariant-loop-hi l =
    (l.lo < l.hi)
    × ((l.hi ≤ l.by.count) × (lookup l.name (drop (l.by.stride * l.lo) (entries_from l.count l.entries 0).list) ≡ lookup l.name (entries_from l.count l.entries 0).list))

abbrev pub decreases-loop-hi : goal.decreases-loop-hi
decreases-loop-hi l = l.hi - l.lo
