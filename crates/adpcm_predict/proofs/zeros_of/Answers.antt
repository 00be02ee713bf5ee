use Rattle.adpcm_predict.specs.Predictor.{zeros_of}
use Rattle.adpcm_predict.proofs.zeros_of.Goals as goal

pub returns : goal.returns
unfolding zeros_of
returns c =
    rw (
      c.zero_of-b1.ensures,
      c.zero_of-b2.ensures,
      c.zero_of-b3.ensures,
      c.zero_of-b4.ensures,
      c.zero_of-b5.ensures,
      c.zero_of-b6.ensures,
    )
