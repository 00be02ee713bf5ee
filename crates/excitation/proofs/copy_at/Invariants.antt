use Rattle.std.proofs.Common.{◌≡◌, ◌≤◌, length, take}
use lib.Seq.{sets}
use Rattle.excitation.proofs.copy_at.Given as goal

abbrev pub invariant-loop-i : goal.invariant-loop-i
invariant-loop-i l = (l.i ≤ length l.from) × (l.buf ≡ sets l.initial.buf l.at (take l.i l.from))
