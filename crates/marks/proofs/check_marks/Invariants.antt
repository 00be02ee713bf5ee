use Rattle.marks.proofs.CheckLaws.{Counting}
use Rattle.marks.proofs.check_marks.Given as goal

abbrev pub invariant-loop-m : goal.invariant-loop-m
invariant-loop-m l = Counting l.sheet l.end l.initial.walk l.walk l.tally

abbrev pub decreases-loop-m : goal.decreases-loop-m
decreases-loop-m l = l.walk.left
