use Rattle.std.proofs.Common.{◌≡◌, ◌/◌, ◌≤◌, length, replicate}
use Rattle.base.specs.Buffers.{over, upto}
use Rattle.lpc_fixed.specs.Values.{value_at}
use Rattle.lpc_fixed.proofs.row_values.Given as goal

abbrev pub invariant-loop-k : goal.invariant-loop-k
invariant-loop-k l = (l.k ≤ length l.row / 2) × (l.values ≡ over (upto (value_at l.min_q l.range_q l.row) l.k) (replicate 32 0))
