use Rattle.adpcm_float.specs.Floating.{floatb}
use Rattle.adpcm_float.proofs.floatb.Goals as goal

pub returns : goal.returns
unfolding floatb
returns c = rw (c.floating.ensures, c.sr_mag.ensures.0)
