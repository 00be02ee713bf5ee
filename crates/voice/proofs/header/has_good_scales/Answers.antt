use Rattle.voice.specs.Header.{good_scales}
use mathlib.Core.Path.{sym, ◌∙◌}
use Rattle.voice.proofs.header.has_good_scales.Goals as goal

pub returns-then-in_scale : goal.returns-then-in_scale
unfolding good_scales
returns-then-in_scale c = let e = sym c.in_scale.ensures ∙ c.if-in_scale.true in rw e c.in_scale-then-in_scale.ensures

pub returns-else-in_scale : goal.returns-else-in_scale
unfolding good_scales
returns-else-in_scale c = let e = sym c.in_scale.ensures ∙ c.if-in_scale.false in rw e c.if-in_scale.false
