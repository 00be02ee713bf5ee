use Rattle.adpcm_scale.specs.Scale.{speed_of}
use Rattle.std.proofs.Common.{rules}
use Rattle.adpcm_scale.proofs.speed_of.Goals as goal

pub returns : goal.returns
unfolding speed_of
returns c = (
  rw (c.triga-kept.ensures.0, c.filtc-app.ensures.0, c.subtc.ensures.0, c.filtb-dmlp.ensures.0, c.filta-dmsp.ensures.0),
  record { dms = search rules; dml = search rules; ap = search rules },
)
