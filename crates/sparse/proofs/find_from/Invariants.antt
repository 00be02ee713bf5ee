use mathlib.Core.Path.{◌≡◌}
use mathlib.Core.Bool.{true}
use Prim.Native.Nat.{◌-◌}
use Rattle.voice.specs.Voice.{entries_from, lookup}
use Rattle.index.specs.Index.{ascending}
use Rattle.index.proofs.WalkLaws.{Walk}
use Rattle.sparse.proofs.find_from.Given as goal

abbrev pub invariant-loop : goal.invariant-loop
invariant-loop l =
    Walk l.entries (lookup l.name) (lookup l.name (entries_from l.count l.entries l.from).list) (l.count - l.counter) l.at × (ascending (entries_from (l.count - l.counter) l.entries l.at).list ≡ true)
