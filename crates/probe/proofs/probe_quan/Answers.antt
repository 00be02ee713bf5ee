use mathlib.Core.Path.{◌∙◌, ap}
use mir.Facts.{to_z-of_z}
use Rattle.adpcm_float.specs.Powers.{powers_not_above}
use Rattle.probe.proofs.probe_quan.Goals as goal

pub returns : goal.returns
returns c = c.quan.ensures.0 ∙ ap powers_not_above (to_z-of_z c.ranges.val)
