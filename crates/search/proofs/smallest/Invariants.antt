use Prim.Native.Nat.{◌-◌, ◌≤◌}
use Rattle.voice.specs.Voice.{entries_from, sort}
use Rattle.index.specs.Index.{first_of}
use Rattle.search.proofs.FirstLaws.{Seeking}
use Rattle.search.proofs.smallest.Given as goal

abbrev pub invariant-loop : goal.invariant-loop
invariant-loop l = (1 ≤ l.counter) × Seeking l.entries (first_of (sort (entries_from l.count l.entries 0).list)) l.best (l.count - l.counter) l.at
