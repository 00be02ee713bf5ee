use mathlib.Core.Path.{◌∙◌, ap}
use Prim.Native.Nat.{ℕ, ◌*◌, ◌-◌, ◌/◌}
use native.Mathlib.Omega.{arith}
use Rattle.adpcm_scale.specs.Scale.{antilog}
use Rattle.adpcm_scale.proofs.ScaleLaws.{unless, unless-negative}
use Rattle.adpcm_scale.proofs.antilog.Goals as goal

pub overflow_mul-result : goal.overflow_mul-result
overflow_mul-result c = omega (arith, unless (c.args.dql / 2048) c.shifted.result)

pub returns : goal.returns
unfolding antilog
returns c =
    let q = c.args.dql / 2048 in (
      ap (λ (x : ℕ). (1 - q) * x) c.shifted.ensures.0 ∙ unless-negative c.args.dql _ c.requires,
      omega (arith, unless q c.shifted.result),
    )
