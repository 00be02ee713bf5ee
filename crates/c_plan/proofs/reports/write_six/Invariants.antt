use mathlib.Core.Path.{◌≡◌}
use mathlib.Core.List.{List}
use Prim.Native.Nat.{ℕ}
use lib.ListN.{get_or}
use Rattle.base.specs.Buffers.{over, flat, upto}
use Rattle.base.specs.Bytes.{bytes_of}
use Rattle.c_plan.proofs.reports.write_six.Given as goal

-- number i
abbrev pub number_in : List ℕ → ℕ → ℕ
number_in numbers i = get_or numbers i 0

abbrev pub invariant-loop-i : goal.invariant-loop-i
invariant-loop-i l = l.report ≡ over (flat (bytes_of 8) (upto (number_in l.number-items) l.i)) l.initial.report
