use Rattle.base.specs.Buffers.{over}
use Rattle.base.proofs.bytes.copy.Goals as goal

pub returns : goal.returns
unfolding over
returns c = rw c.copy_from_slice.ensures.after
