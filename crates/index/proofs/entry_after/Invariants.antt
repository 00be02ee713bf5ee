use Prim.Native.Nat.{◌-◌}
use Rattle.index.specs.Index.{end_of}
use Rattle.index.proofs.EndLaws.{Ending}
use Rattle.index.proofs.entry_after.Given as goal

abbrev pub invariant-loop : goal.invariant-loop
invariant-loop l = Ending l.entries (end_of l.count l.entries l.from) (l.count - l.counter) l.at
