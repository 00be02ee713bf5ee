use Rattle.std.proofs.Common.{◌^◌, le→leb}
use lib.Ieee.{in_float}
use Rattle.float.proofs.u32_to_f32.Goals as goal

-- `float::u32_to_f32` meets its contract. Assumes nothing.
pub int_to_float-result : goal.int_to_float-result
unfolding in_float
int_to_float-result c = le→leb c.args.n (2 ^ 24) c.if-n-le16777216.true
