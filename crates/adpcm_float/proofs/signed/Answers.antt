use Prim.Native.Nat.{◌*◌, ◌≤◌}
use native.Mathlib.Omega.{arith}
use Rattle.adpcm_float.proofs.FloatLaws.{once, signed-off}
use Rattle.adpcm_float.proofs.signed.Goals as goal
use Rattle.adpcm_float.proofs.signed.Goals.{Start}

-- what is to be negative is no more than the magnitude
part : (c : Start) → c.args.mag * c.args.sign ≤ c.args.mag
part c = once c.args.mag c.args.sign c.requires.0

pub overflow_mul-result : goal.overflow_mul-result
overflow_mul-result c = omega (arith, part c)

pub overflow_mul-result-2 : goal.overflow_mul-result-2
overflow_mul-result-2 c = omega (arith, part c)

pub overflow_sub-result : goal.overflow_sub-result
overflow_sub-result c = omega (arith, part c)

pub returns : goal.returns
returns c =
    let e = signed-off c.args.sign c.args.mag c.requires.0 c.requires.1 in
    (e, omega (arith, e))
