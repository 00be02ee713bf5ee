use native.Mathlib.Omega.{arith}
use Rattle.adpcm_predict.specs.Predictor.{sei}
use Rattle.adpcm_predict.proofs.sei.Goals as goal

pub returns : goal.returns
unfolding sei
returns c = (rw (c.fmult.ensures.0, c.fmult-2.ensures.0), omega arith)
