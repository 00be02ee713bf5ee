use Prim.Native.Nat.{◌%◌, ◌*◌, ◌≤◌}
use native.Mathlib.Nat.{mul-le-mul}
use native.Mathlib.Omega.{arith}
use Rattle.adpcm_float.specs.Floating.{fmult}
use Rattle.adpcm_float.proofs.fmult.Goals as goal
use Rattle.adpcm_float.proofs.fmult.Goals.{After-mantissa}

-- the mantissas' product has 12 bits
mants : (c : After-mantissa) → c.args.srn % 64 * c.mantissa.result ≤ 63 * 63
mants c = mul-le-mul {n₂ = 63} {m₂ = 63} (omega arith) (omega arith)

pub overflow_mul-mant : goal.overflow_mul-mant
overflow_mul-mant c = omega (arith, mants c)

pub overflow_add-mant : goal.overflow_add-mant
overflow_add-mant c = omega (arith, mants c)

pub wan_mag-requires : goal.wan_mag-requires
wan_mag-requires c = (omega (arith, mants c.before), omega arith)

pub returns : goal.returns
unfolding fmult
returns c = (
  rw (
    c.signed.ensures.0,
    c.wan_mag.ensures.0,
    c.exponent.ensures.0,
    c.mantissa.ensures.0,
    c.an_mag-mag.ensures.0,
  ),
  c.signed.ensures.1,
)
