use native.Mathlib.Omega.{arith}
use Rattle.adpcm_predict.specs.Predictor.{sezi}
use Rattle.adpcm_predict.proofs.sezi.Goals as goal

pub returns : goal.returns
unfolding sezi
returns c = (
  rw (
    c.zero_part.ensures.0,
    c.zero_part-2.ensures.0,
    c.zero_part-3.ensures.0,
    c.zero_part-4.ensures.0,
    c.zero_part-5.ensures.0,
    c.zero_part-6.ensures.0,
  ),
  omega arith,
)
