use mathlib.Core.Path.{◌≡◌}
use mathlib.Core.Bool.{true}
use Prim.Native.Nat.{◌+◌, ◌-◌, ◌≤◌}
use Rattle.voice.specs.Voice.{entries_from}
use Rattle.index.specs.Index.{ascending}
use Rattle.index.proofs.is_ascending.Given as goal

abbrev pub invariant-loop : goal.invariant-loop
invariant-loop l =
    (1 ≤ l.counter)
    × (((entries_from (l.count + 1 - l.counter) l.entries l.at).whole ≡ true)
    × (ascending (entries_from (l.count + 1 - l.counter) l.entries l.at).list ≡ ascending (entries_from l.count l.entries 0).list))
