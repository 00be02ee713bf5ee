use mathlib.Core.Path.{◌∙◌, ap}
use mir.Facts.{to_z-of_z}
use mir.Syntax.{w16}
use Rattle.ulaw.specs.Ulaw.{ulaw_of}
use Rattle.adpcm.proofs.byte_of.Goals as goal

pub returns : goal.returns
returns c = c.i16_to_ulaw.ensures ∙ ap ulaw_of (to_z-of_z {w = w16} {z = c.sample_in.result} (record { sfits = c.sample_in.type_inv }) ∙ c.sample_in.ensures)
