use mathlib.Core.Path.{◌≡◌}
use Prim.Native.Nat.{ℕ, zero, suc, ◌+◌, ◌-◌, ◌*◌, ◌%◌, ◌<◌, ◌≤◌}
use native.Mathlib.Omega.{arith}
use lib.Dec.{eqb}
use Rattle.base.specs.Choice.{pick}
use Rattle.adpcm_float.proofs.FloatLaws.{once}
use Rattle.adpcm_predict.specs.Predictor.{fa}
use Rattle.adpcm_predict.proofs.fa.Goals as goal
use Rattle.adpcm_predict.proofs.fa.Goals.{After-fa1-f}

sign : (f s : ℕ) → s < 2 → f < 131072 → (131072 - f + 2 * (f * s)) % 131072 ≡ pick (eqb s 1) f ((131072 - f) % 131072)
sign f zero h l = omega arith
sign f (suc zero) h l = omega arith
sign f (suc (suc n)) h l = absurd (omega arith)

part : (c : After-fa1-f) → c.fa1-f.result * c.args.pks1 ≤ c.fa1-f.result
part c = once c.fa1-f.result c.args.pks1 c.requires

pub overflow_mul-result : goal.overflow_mul-result
overflow_mul-result c = omega (arith, part c)

pub overflow_mul-result-2 : goal.overflow_mul-result-2
overflow_mul-result-2 c = omega (arith, part c)

pub overflow_add-result : goal.overflow_add-result
overflow_add-result c = omega (arith, part c)

pub returns : goal.returns
unfolding fa
returns c = (rw (← c.fa1-f.ensures.0) (sign c.fa1-f.result c.args.pks1 c.requires c.fa1-f.ensures.1), omega arith)
