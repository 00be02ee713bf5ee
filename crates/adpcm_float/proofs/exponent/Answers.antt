use native.Mathlib.Omega.{arith}
use Rattle.adpcm_float.proofs.PowerLaws.{exponent-of}
use Rattle.adpcm_float.proofs.exponent.Goals as goal

pub overflow_sub-result : goal.overflow_sub-result
overflow_sub-result c = omega (arith, (exponent-of c.args.mag c.requires).zeros)

pub returns : goal.returns
returns c =
    let e = exponent-of c.args.mag c.requires in
    (omega (arith, e.zeros), omega (arith, e.zeros, e.most))
