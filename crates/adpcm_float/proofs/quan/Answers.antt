use mathlib.Core.Bool.{true, false}
use mathlib.Core.Path.{◌≡◌, sym}
use Prim.Native.Nat.{◌<◌}
use native.Mathlib.Omega.{arith}
use lib.Dec.{T}
use lib.IntN.{pos, nat_abs}
use lib.Signed.{lt_z, non_neg, pos-nat_abs}
use mir.Facts.{to_z-of_z}
use Rattle.std.proofs.lemmas.Int.{ints}
use Rattle.adpcm_float.proofs.PowerLaws.{below-1, from-0x4000, below-higher, from-lower, between}
use Rattle.adpcm_float.proofs.quan.Goals as goal
use Rattle.adpcm_float.proofs.quan.Goals.{Else-val-ge16384}

pub returns-then-val-lt1 : goal.returns-then-val-lt1
returns-then-val-lt1 c =
    let x = c.args.val in
    let t : lt_z x (pos 1) ≡ true = grind (arith, ints, to_z-of_z) in
    (sym (below-1 x (below-higher x 1 t (omega arith))), omega arith)

pub returns-then-val-ge16384 : goal.returns-then-val-ge16384
returns-then-val-ge16384 c =
    let x = c.args.val in
    let t = rw (to_z-of_z c.ranges.val) at c.if-val-ge16384.true in
    (sym (from-0x4000 x (from-lower x 0x4000 t (omega arith))), omega arith)

-- what is left after both tests
left : (c : Else-val-ge16384) → T (non_neg c.args.val) × (nat_abs c.args.val < 32768)
left c =
    let h = c.ranges.val in
    let some : lt_z c.args.val (pos 1) ≡ false = grind (arith, ints, to_z-of_z) in
    let b = between c.args.val some (rw (to_z-of_z h) at c.if-val-ge16384.false) in
    (b.0, omega arith)

pub overflow_cast-val : goal.overflow_cast-val
overflow_cast-val c = rw (to_z-of_z c.ranges.val) ((left c).0, record { fits = omega (arith, (left c).1) })

pub exponent-requires : goal.exponent-requires
exponent-requires c = rw (to_z-of_z c.ranges.val) (omega (arith, (left c).1))

pub returns : goal.returns
returns c =
    let e = pos-nat_abs c.args.val (left c.before).0 in
    (rw (c.exponent.ensures.0, to_z-of_z c.ranges.val, e), c.exponent.ensures.1)
