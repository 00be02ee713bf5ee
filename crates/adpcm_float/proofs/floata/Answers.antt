use Rattle.adpcm_float.specs.Floating.{floata}
use Rattle.adpcm_float.proofs.floata.Goals as goal

pub returns : goal.returns
unfolding floata
returns c = c.floating.ensures
