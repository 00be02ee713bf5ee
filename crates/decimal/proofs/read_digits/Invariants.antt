use Prim.Native.Nat.{◌-◌}
use lib.ListN.{length}
use Rattle.decimal.proofs.DigitLaws.{Going}
use Rattle.decimal.proofs.read_digits.Given as goal

-- The loop's invariant says what is still to be read.
abbrev pub invariant-loop-digit : goal.invariant-loop-digit
invariant-loop-digit l = Going l.text l.at l.before l.end l.number l.power

abbrev pub decreases-loop-digit : goal.decreases-loop-digit
decreases-loop-digit l = length l.text - l.end
