use mathlib.Core.Path.{ap}
use lib.Ieee.{Float, binary32, add, mul}
use Rattle.excitation.specs.Nearest.{place_after_size}
use Rattle.excitation.proofs.place_after.Goals as goal

pub returns : goal.returns
unfolding place_after_size
returns c = ap (λ (x : Float). add binary32 c.args.place (mul binary32 x c.args.pace)) c.u32_to_f32.ensures
