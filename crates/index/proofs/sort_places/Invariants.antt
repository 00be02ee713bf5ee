use Rattle.index.proofs.InsertLaws.{Sorting}
use Rattle.index.proofs.sort_places.Given as goal

abbrev pub invariant-loop-i : goal.invariant-loop-i
invariant-loop-i l = Sorting l.entries l.count l.base l.initial.index l.index l.i
