use mathlib.Core.Path.{ap, ◌∙◌}
use lib.Ieee.{Float, binary32, mul}
use Rattle.float.specs.Nearest.{to_nearest}
use Rattle.units.specs.Units.{samples_at}
use Rattle.units.proofs.ends.samples_at.Goals as goal

pub returns : goal.returns
unfolding samples_at
returns c =
    c.f32_to_nearest.ensures ∙ ap (λ (x : Float). to_nearest 64 (mul binary32 c.args.time x)) c.u32_to_f32.ensures
