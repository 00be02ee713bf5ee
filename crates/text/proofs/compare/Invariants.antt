use Rattle.std.proofs.Common.{◌≡◌, ◌≤◌, length, drop}
use Rattle.text.specs.Names.{order_of}
use Rattle.text.proofs.compare.Given as goal

abbrev pub invariant-loop-i : goal.invariant-loop-i
invariant-loop-i l = (l.i ≤ length l.a) × (l.i ≤ length l.b) × (order_of (drop l.i l.a) (drop l.i l.b) ≡ order_of l.a l.b)
