-- The run whose record was read.
use Rattle.vectors.proofs.VectorLaws.{run_of}
use Rattle.vectors.proofs.run_at.Goals as goal

pub returns : goal.returns
returns c = (run_of c.args.runs.now c.args.i c.read_u16-word.ensures c.read_u16-count.ensures c.run.ensures.0, c.run.ensures.1)
