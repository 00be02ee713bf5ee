use Prim.Native.Nat.{◌-◌}
use Rattle.voice.specs.Voice.{entries_from, lookup}
use Rattle.index.proofs.WalkLaws.{Walk}
use Rattle.search.proofs.lookup.Given as goal

abbrev pub invariant-loop : goal.invariant-loop
invariant-loop l = Walk l.entries (lookup l.name) (lookup l.name (entries_from l.count l.entries 0).list) (l.count - l.counter) l.at
