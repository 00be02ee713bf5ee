use Prim.Native.Nat.{◌≤◌}
use lib.ListN.{length}
use Rattle.voice.specs.Voice.{entries_from}
use Rattle.voice.specs.Opening.{distinct}
use Rattle.index.proofs.WalkLaws.{Walk}
use Rattle.distinct.proofs.names_differ.Given as goal

abbrev pub invariant-loop-left : goal.invariant-loop-left
invariant-loop-left l = (l.at ≤ length l.entries) × Walk l.entries distinct (distinct (entries_from l.count l.entries l.initial.at).list) l.left l.at

abbrev pub decreases-loop-left : goal.decreases-loop-left
decreases-loop-left l = l.left
