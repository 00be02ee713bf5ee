use Prim.Native.Nat.{◌≤◌}
use Rattle.distinct.proofs.neighbours_agree.Given as goal

abbrev pub invariant-loop-i : goal.invariant-loop-i
invariant-loop-i l = 1 ≤ l.i
