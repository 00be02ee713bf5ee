use Prim.Native.Nat.{◌≤◌}
use Rattle.index.specs.Shuffle.{Shuffled}
use Rattle.index.proofs.empty_heap.Given as goal

abbrev pub invariant-loop-end : goal.invariant-loop-end
invariant-loop-end l = (l.end ≤ l.count) × Shuffled l.entries l.count l.base l.initial.index l.index
