use Rattle.std.proofs.Common.{◌%◌, ◌^◌, sym, ap, ◌∙◌, arith}
use lib.Ieee.{binary32, to_bits}
use lib.Ieee.Bits.{of_bits-to_bits}
use Rattle.float.specs.Distance.{abs}
use Rattle.float.proofs.Sign.{abs-bits}
use Rattle.float.proofs.Tests.{yes, is-nan, is_number, number-bits, no-nan-bits}
use Rattle.float.proofs.f32_abs.Goals as goal

-- `float::f32_abs` meets its contract. Assumes nothing.
pub returns-then-x : goal.returns-then-x
returns-then-x c = rw (is-nan c.args.x c.if-x.true)

pub float_to_bits-result : goal.float_to_bits-result
float_to_bits-result c = is_number c.args.x c.if-x.false

pub float_from_bits-result : goal.float_from_bits-result
float_from_bits-result c =
    let x = c.args.x in
    no-nan-bits binary32 (to_bits binary32 x % 2 ^ 31) (omega (arith, number-bits binary32 x (yes c.well_formed.0.1) (is_number x c.if-x.false)))

pub returns : goal.returns
returns c =
    let x = c.args.x in
    sym (abs-bits binary32 (to_bits binary32 x)) ∙ ap abs (of_bits-to_bits binary32 x (yes c.well_formed.0.1))
