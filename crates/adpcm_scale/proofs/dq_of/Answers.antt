use Rattle.adpcm_scale.specs.Scale.{dq_of}
use Rattle.adpcm_scale.proofs.dq_of.Goals as goal

pub returns : goal.returns
unfolding dq_of
returns c = rw (c.antilog.ensures.0, c.adda.ensures.0, c.reconst.ensures.0)
