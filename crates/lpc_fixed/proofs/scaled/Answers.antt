use Rattle.std.proofs.Common.{◌∙◌, to_z-of_z, w32}
use Rattle.lpc.specs.Fixed.{scaled_by}
use Rattle.lpc_fixed.proofs.scaled.Goals as goal

pub returns : goal.returns
unfolding scaled_by
returns c = to_z-of_z {w = w32} (record { sfits = c.f32_to_i32.type_inv }) ∙ c.f32_to_i32.ensures ∙ rw c.from.ensures
