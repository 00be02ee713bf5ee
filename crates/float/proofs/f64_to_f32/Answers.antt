use Rattle.std.proofs.Common.{◌≡◌, ◌%◌, ◌^◌, leb, sym, ap, ◌∙◌, arith, le-leb}
use borrow.Author.Tests.{lt-leb}
use lib.Ieee.{binary32, binary64, of_bits, to_bits}
use lib.Ieee.Bits.{of_bits-to_bits}
use Rattle.float.specs.Casts.{narrow}
use Rattle.float.proofs.Tests.{yes, is-nan, is_number, the_nan, number-bits, no-nan-bits}
use Rattle.float.proofs.Sign.{signed, split, plus, minus, narrow_signed}
use Rattle.float.proofs.f64_to_f32.Goals as goal
use Rattle.float.proofs.f64_to_f32.Goals.{After-narrowed-pattern}

-- `float::f64_to_f32` meets its contract. Assumes nothing.
pub returns-then-x : goal.returns-then-x
unfolding narrow
returns-then-x c = the_nan ∙ ap narrow (sym (is-nan c.args.x c.if-x.true))

pub float_to_bits-bits : goal.float_to_bits-bits
float_to_bits-bits c = is_number c.args.x c.if-x.false

pub narrowed-pattern-requires : goal.narrowed-pattern-requires
narrowed-pattern-requires c = number-bits binary64 c.args.x (yes c.well_formed.0.1) (is_number c.args.x c.if-x.false)

-- the result is the pattern's float with the sign of x
result : (c : After-narrowed-pattern) → narrow c.args.x ≡ signed (leb (2 ^ 63) (to_bits binary64 c.args.x)) (of_bits binary32 c.narrowed-pattern.result)
result c =
    let x = c.args.x in
    let b = to_bits binary64 x in
    ap narrow (sym (of_bits-to_bits binary64 x (yes c.well_formed.0.1)) ∙ split binary64 b)
    ∙ narrow_signed (leb (2 ^ 63) b) (of_bits binary64 (b % 2 ^ 63))
    ∙ ap (signed (leb (2 ^ 63) b)) (sym c.narrowed-pattern.ensures.1)

pub float_from_bits-result : goal.float_from_bits-result
float_from_bits-result c = no-nan-bits binary32 c.narrowed-pattern.result (omega arith)

pub returns-then-bits-lt9223372036854775808 : goal.returns-then-bits-lt9223372036854775808
returns-then-bits-lt9223372036854775808 c = plus binary32 c.narrowed-pattern.result (omega arith) ∙ sym (rw (lt-leb _ _ c.if-bits-lt9223372036854775808.true) at (result c.before))

pub float_from_bits-result-2 : goal.float_from_bits-result-2
float_from_bits-result-2 c = no-nan-bits binary32 _ (omega arith)

pub returns : goal.returns
returns c = minus binary32 c.narrowed-pattern.result (omega arith) ∙ sym (rw (le-leb _ _ c.if-bits-lt9223372036854775808.false) at (result c.before))
