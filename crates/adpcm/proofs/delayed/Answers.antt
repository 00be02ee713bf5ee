use Rattle.adpcm.specs.Decoder.{delayed}
use Rattle.adpcm.proofs.delayed.Goals as goal

pub returns : goal.returns
unfolding delayed
returns c = cc
