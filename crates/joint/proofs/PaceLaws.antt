-- In the simple join a period of size 0 at the head of a unit leaves the place in the unit at 0.
use mathlib.Core.Path.{◌≡◌, refl, sym, ◌∙◌}
use mathlib.Core.Bool.{true, false, cond, true≢false}
use Prim.Native.Nat.{ℕ, zero, suc, ◌*◌, ◌^◌, ◌≤◌, ◌<◌, max}
use native.Mathlib.Nat.{mul-one, one-mul, mul-pos, zero-mul}
use native.Mathlib.Omega.{arith}
use borrow.Author.Tests.{ne_eqb}
use lib.Dec.{eqb}
use lib.IntN.{pos}
use lib.Ieee.{Float, nan, inf, fin, binary32, up, down, unlike, add, mul, div, of_int, round}
use lib.Ieee.Back.{round_whole}
use lib.Ieee.Exact.{HasValue}
use lib.Ieee.Fits.{up_pos, down_pos}
use lib.Ieee.Scale.{round_same}
use Rattle.excitation.specs.Nearest.{f32_of, place_after_size}

abbrev one : Float
one = round binary32 false 1 1

-- a number divided by itself
itself : (n : ℕ) (x : Float) → 0 < n → HasValue x false n 1 → div binary32 x x ≡ one
unfolding div
itself n nan p h = absurd h
itself n (inf t) p h = absurd h
itself n (fin true m e) p h = absurd (true≢false h.0)
itself n (fin false m e) p h = by m h.1
  where
    by : (m : ℕ) → m * up e * 1 ≡ n * down e → cond (eqb m 0) (cond (eqb m 0) nan (inf (unlike false false))) (round binary32 (unlike false false) (m * up e * down e) (m * up e * down e)) ≡ one
    by zero q =
        let a : 0 < n * down e = mul-pos p (down_pos e) in
        let b : 0 * up e * 1 ≡ 0 = simp zero-mul in
        absurd (omega arith)
    by (suc m) q =
        let z : 0 < suc m = omega arith in
        let a : 0 < suc m * up e * down e = mul-pos (mul-pos z (up_pos e)) (down_pos e) in
        rw (ne_eqb (suc m) 0 (λ q. omega arith)) (round_same binary32 false (suc m * up e * down e) (suc m * up e * down e) 1 1 a (omega arith) (mul-one _ ∙ sym (one-mul _)))

-- a unit of n samples that ends where it naturally does
pub stays-at-0 : (n : ℕ) → n ≤ 2 ^ 24 → place_after_size (fin false 0 (pos 0)) (div binary32 (f32_of n) (f32_of (max n 1))) 0 ≡ fin false 0 (pos 0)
unfolding place_after_size add mul div of_int
stays-at-0 zero h = refl
stays-at-0 (suc n) h =
    let e : max (suc n) 1 ≡ suc n = omega arith in
    rw (e, itself (suc n) (round binary32 false (suc n) 1) (omega arith) (round_whole binary32 false (suc n) h))
