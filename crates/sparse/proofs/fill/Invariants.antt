use Rattle.sparse.proofs.SparseLaws.{Spaced}
use Rattle.sparse.proofs.fill.Given as goal

abbrev pub invariant-loop-left : goal.invariant-loop-left
invariant-loop-left l = Spaced l.entries l.count l.stride l.initial.index l.index l.last l.at l.left

abbrev pub decreases-loop-left : goal.decreases-loop-left
decreases-loop-left l = l.left
