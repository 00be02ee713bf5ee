use mathlib.Core.Path.{◌∙◌, ap}
use mir.Facts.{to_z-of_z}
use Rattle.ulaw.specs.Ulaw.{ulaw_of}
use Rattle.probe.proofs.probe_i16_to_ulaw.Goals as goal

pub returns : goal.returns
returns c = c.i16_to_ulaw.ensures ∙ ap ulaw_of (to_z-of_z c.ranges.sample)
