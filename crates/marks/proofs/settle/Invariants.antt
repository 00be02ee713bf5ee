use Rattle.std.proofs.Common.{◌≡◌}
use Rattle.marks.specs.Walking.{coming, Reads}
use Rattle.marks.proofs.settle.Given as goal

abbrev pub invariant-loop-walk : goal.invariant-loop-walk
invariant-loop-walk l = (coming l.sheet l.walk ≡ coming l.sheet l.initial.walk) × Reads l.sheet l.walk × (l.walk.left ≡ l.initial.walk.left)

abbrev pub decreases-loop-walk : goal.decreases-loop-walk
decreases-loop-walk l = l.walk.targets
