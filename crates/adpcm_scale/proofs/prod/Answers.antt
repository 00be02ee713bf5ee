use mathlib.Core.Path.{refl}
use Prim.Native.Nat.{◌*◌, ◌≤◌}
use native.Mathlib.Nat.{mul-le-mul}
use native.Mathlib.Omega.{arith}
use Rattle.adpcm_scale.proofs.prod.Goals as goal
use Rattle.adpcm_scale.proofs.prod.Goals.{Start}

-- the product has 20 bits
product_le : (c : Start) → c.args.dif * c.args.al ≤ 16384 * 64
product_le c = mul-le-mul {n₂ = 16384} {m₂ = 64} (omega arith) c.requires.1

pub overflow_mul-result : goal.overflow_mul-result
overflow_mul-result c = omega (arith, product_le c)

pub returns : goal.returns
returns c = (refl, omega (arith, product_le c))
