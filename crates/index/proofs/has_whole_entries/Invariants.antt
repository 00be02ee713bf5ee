use mathlib.Core.Path.{◌≡◌}
use Prim.Native.Nat.{◌-◌}
use Rattle.voice.specs.Voice.{entries_from}
use Rattle.index.proofs.has_whole_entries.Given as goal

abbrev pub invariant-loop : goal.invariant-loop
invariant-loop l = (entries_from (l.count - l.counter) l.entries l.at).whole ≡ (entries_from l.count l.entries 0).whole
