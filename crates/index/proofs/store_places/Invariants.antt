use Rattle.index.proofs.StoreLaws.{Storing}
use Rattle.index.proofs.store_places.Given as goal

abbrev pub invariant-loop-i : goal.invariant-loop-i
invariant-loop-i l = Storing l.entries l.count l.base l.initial.index l.index l.at l.i
