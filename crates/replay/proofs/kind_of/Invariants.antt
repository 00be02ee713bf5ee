-- No refusal of this number or one above it has the text.
use Rattle.std.proofs.Common.{◌≡◌, ◌-◌}
use Rattle.replay.specs.Stored.{kind_up_to, kind_of}
use Rattle.replay.proofs.kind_of.Given as goal

abbrev pub invariant-loop-number : goal.invariant-loop-number
invariant-loop-number l = kind_of l.text ≡ kind_up_to l.text (l.number - 1)
