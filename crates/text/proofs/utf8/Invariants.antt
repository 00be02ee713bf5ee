use Rattle.std.proofs.Common.{◌≡◌, drop}
use Rattle.text.specs.Utf8.{waits, complete, utf8}
use Rattle.text.proofs.utf8.Given as goal

abbrev pub invariant-loop-b : goal.invariant-loop-b
invariant-loop-b l = complete (waits l.w (drop l.b-index l.b-items)) ≡ utf8 l.s
