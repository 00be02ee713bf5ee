use Prim.Native.Nat.{◌-◌}
use Rattle.index.specs.Shuffle.{Shuffled}
use Rattle.index.proofs.sink_place.Given as goal

abbrev pub invariant-loop-at : goal.invariant-loop-at
invariant-loop-at l = Shuffled l.entries l.count l.base l.initial.index l.index

abbrev pub decreases-loop-at : goal.decreases-loop-at
decreases-loop-at l = l.end - l.at
