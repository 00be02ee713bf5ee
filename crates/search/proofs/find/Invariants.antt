use Prim.Native.Nat.{◌-◌, ◌≤◌}
use Rattle.voice.specs.Voice.{entries_from, sort}
use Rattle.search.proofs.SearchLaws.{Between}
use Rattle.search.proofs.find.Given as goal

abbrev pub invariant-loop-lo : goal.invariant-loop-lo
invariant-loop-lo l = (l.hi ≤ l.count) × Between (sort (entries_from l.count l.entries 0).list) l.name l.lo l.hi

abbrev pub decreases-loop-lo : goal.decreases-loop-lo
decreases-loop-lo l = l.hi - l.lo
