use Rattle.index.specs.Shuffle.{Shuffled}
use Rattle.index.proofs.build_heap.Given as goal

abbrev pub invariant-loop-i : goal.invariant-loop-i
invariant-loop-i l = Shuffled l.entries l.count l.base l.initial.index l.index
