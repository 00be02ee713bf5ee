use lib.Ieee.{of_bits}
use Rattle.lpc.specs.Floating.{float_value}
use Rattle.lpc_float.proofs.row_value.Goals as goal

pub returns : goal.returns
unfolding float_value of_bits
returns c = rw (c.f64_to_f32.ensures, c.f32_to_f64_with_nan-range.ensures)
