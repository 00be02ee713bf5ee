use lib.Ieee.{of_bits}
use Rattle.marks.proofs.fresh.Goals as goal

pub returns : goal.returns
unfolding of_bits
returns c = rw (c.nearest_u64_to_f64.ensures, c.from.ensures)
