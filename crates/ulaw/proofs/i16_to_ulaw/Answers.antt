use mathlib.Core.Path.{ap, ◌∙◌}
use native.Mathlib.Omega.{arith}
use lib.IntN.{nat_abs}
use mir.Facts.{to_z-of_z}
use Rattle.ulaw.specs.Ulaw.{ulaw_of, last_interval}
use Rattle.ulaw.proofs.i16_to_ulaw.Goals as goal

pub returns-then-sample-lt0 : goal.returns-then-sample-lt0
unfolding ulaw_of
returns-then-sample-lt0 c =
    let h = c.ranges.sample in
    let i = c.interval_of-interval.ensures.0 ∙ ap (last_interval 127) (c.from.ensures ∙ c.unsigned_abs.ensures.value ∙ ap nat_abs (to_z-of_z h)) in
    rw (rw (to_z-of_z h) at c.if-sample-lt0.true) (omega (arith, i))

pub returns-else-sample-lt0 : goal.returns-else-sample-lt0
unfolding ulaw_of
returns-else-sample-lt0 c =
    let h = c.ranges.sample in
    let i = c.interval_of-interval.ensures.0 ∙ ap (last_interval 127) (c.from.ensures ∙ c.unsigned_abs.ensures.value ∙ ap nat_abs (to_z-of_z h)) in
    rw (rw (to_z-of_z h) at c.if-sample-lt0.false) (omega (arith, i))
