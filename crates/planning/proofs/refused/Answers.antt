use lib.Ieee.{of_bits, neg}
use Rattle.call.specs.Buffers.{zero_state}
use Rattle.planning.proofs.refused.Goals as goal

pub returns : goal.returns
unfolding zero_state of_bits neg
returns c = let e = c.fresh.ensures in rw e
