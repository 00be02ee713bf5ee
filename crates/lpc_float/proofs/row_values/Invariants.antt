use Rattle.std.proofs.Common.{◌≡◌, ◌/◌, ◌≤◌, length, replicate}
use Rattle.base.specs.Buffers.{over, upto}
use Rattle.base.specs.Bytes.{u16_at}
use Rattle.lpc.specs.Floating.{float_value}
use Rattle.lpc_float.specs.Values.{zero32}
use Rattle.lpc_float.proofs.row_values.Given as goal

abbrev pub invariant-loop-k : goal.invariant-loop-k
invariant-loop-k l = (l.k ≤ length l.row / 2) × (l.values ≡ over (upto (λ j. float_value l.coeff_min l.coeff_range (u16_at l.row j)) l.k) (replicate 32 zero32))
