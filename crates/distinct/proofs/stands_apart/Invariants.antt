use Prim.Native.Nat.{◌-◌}
use Rattle.voice.specs.Voice.{entries_from}
use Rattle.distinct.specs.Blocks.{apart}
use Rattle.index.proofs.WalkLaws.{Walk}
use Rattle.distinct.proofs.stands_apart.Given as goal

abbrev pub invariant-loop : goal.invariant-loop
invariant-loop l =
    Walk l.entries (apart (entries_from l.count l.entries 0).list) (apart (entries_from l.count l.entries 0).list (entries_from l.later l.entries l.from).list) (l.later - l.counter) l.at
