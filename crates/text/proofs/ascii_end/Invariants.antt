use Rattle.std.proofs.Common.{◌≡◌, drop}
use Rattle.text.specs.Utf8.{utf8}
use Rattle.text.proofs.ascii_end.Given as goal

abbrev pub invariant-loop-i : goal.invariant-loop-i
invariant-loop-i l = utf8 (drop l.i l.s) ≡ utf8 l.s
