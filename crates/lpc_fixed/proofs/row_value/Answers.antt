use Rattle.std.proofs.Common.{ℕ, ◌%◌, ◌^◌, ap, ◌∙◌}
use Rattle.lpc_fixed.proofs.ValueLaws.{sum_fits, value-word}
use Rattle.lpc_fixed.proofs.row_value.Goals as goal

pub overflow_add-value : goal.overflow_add-value
overflow_add-value c = sum_fits _ _ _ c.ranges.q c.ranges.min_q c.ranges.range_q

pub returns : goal.returns
returns c = c.low32.ensures ∙ ap (λ (w : ℕ). w % 2 ^ 32) c.cast_unsigned.ensures ∙ value-word _ _ _ c.ranges.q c.ranges.min_q c.ranges.range_q
