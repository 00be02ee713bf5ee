-- A row value in 64 bits: no step of it overflows, whatever the scales are.
use Rattle.std.proofs.Common.{◌≡◌, ℕ, zero, suc, ◌+◌, ◌*◌, ◌/◌, ◌%◌, ◌^◌, ◌<◌, ◌≤◌, T, leb, ℤ, pos, negsuc, ◌+ℤ◌, ◌*ℤ◌, neg_ℤ, nat_abs, sym, refl, ap, ◌∙◌, le_trans, mul-le-mul_left, arith, to_z-of_z, w16, w32, w64, Fits, SFits, to_z, of_z, le-ltb, lt-ltb}
use lib.IntN.{sub_ℕ}
use lib.Signed.{quot_z, nat_abs-le}
use mir.Syntax.{Width}
use mir.Val.{hbits}
use mir.Facts.{to_z_pos, sfits_widen}
use Rattle.base.specs.Words.{low}
use Rattle.base.proofs.CaseLaws.{by_order}
use Rattle.base.proofs.WordLaws.{quot_fits, low-mul}
use Rattle.lpc.specs.Fixed.{row_value}

-- ---- magnitudes

nat_abs-minus : (n : ℕ) → nat_abs (neg_ℤ (pos n)) ≡ n
nat_abs-minus zero = refl
nat_abs-minus (suc n) = refl

nat_abs-times : (a : ℕ) (z : ℤ) → nat_abs (pos a *ℤ z) ≡ a * nat_abs z
nat_abs-times a (pos n) = refl
nat_abs-times a (negsuc n) = nat_abs-minus (a * suc n)

nat_abs-quotient : (z : ℤ) (d : ℕ) → nat_abs (quot_z z (pos d)) ≡ nat_abs z / d
nat_abs-quotient (pos n) d = refl
nat_abs-quotient (negsuc n) d = nat_abs-minus (suc n / d)

nat_abs-difference : (a b : ℕ) → nat_abs (sub_ℕ a b) ≤ a + b
nat_abs-difference a b = by_order a b (λ l. rw (lt-ltb a b l) (omega arith)) (λ l. rw (le-ltb a b l) (omega arith))

nat_abs-sum : (x y : ℤ) → nat_abs (x +ℤ y) ≤ nat_abs x + nat_abs y
nat_abs-sum (pos a) (pos b) = omega arith
nat_abs-sum (pos a) (negsuc b) = nat_abs-difference a (suc b)
nat_abs-sum (negsuc a) (pos b) = omega (arith, nat_abs-difference b (suc a))
nat_abs-sum (negsuc a) (negsuc b) = omega arith

small-fits : (z : ℤ) → nat_abs z < 2 ^ 63 → SFits w64 z
small-fits (pos n) h = record { sfits = h }
small-fits (negsuc n) h = record { sfits = omega arith }

-- the low 32 bits of an i64
low-word : (z : ℤ) → SFits w64 z → of_z w64 z % 2 ^ 32 ≡ low 32 z
unfolding low
low-word (pos n) h = refl
low-word (negsuc n) h = omega (arith, h.sfits)

-- ---- the steps, as the code takes them

-- an integer that fits v bits, cast to the w bits, which are no fewer
module _ (v w : Width) (more : T (leb (hbits v) (hbits w))) (z : ℤ) (h : SFits v z) where
  pub cast_is : to_z w (of_z w (to_z v (of_z v z))) ≡ z
  cast_is = rw (to_z-of_z h) (to_z-of_z (sfits_widen more h))

-- an i32 as i64
abbrev wide : ℤ → ℤ
wide z = to_z w64 (of_z w64 (to_z w32 (of_z w32 z)))

-- an i64 that was stored
abbrev kept : ℤ → ℤ
kept z = to_z w64 (of_z w64 z)

narrow_size : (z : ℤ) → SFits w32 z → nat_abs z ≤ 2 ^ 31
narrow_size z h = nat_abs-le z h.sfits

module _ (q : ℕ) (m r : ℤ) (hq : Fits w16 q) (hm : SFits w32 m) (hr : SFits w32 r) where
  abbrev product : ℤ
  product = to_z w64 (q / 2) *ℤ wide r

  abbrev sum : ℤ
  sum = kept (quot_z (kept product) (pos 2048)) +ℤ wide m

  product_is : product ≡ pos (q / 2) *ℤ r
  product_is = let l : q / 2 < 2 ^ 63 = omega (arith, hq.fits) in rw (to_z_pos w64 l, cast_is w32 w64 tt r hr)

  product-size : nat_abs product ≤ 2 ^ 46
  product-size =
      let a : q / 2 ≤ 2 ^ 15 = omega (arith, hq.fits) in
      rw (product_is, nat_abs-times (q / 2) r) (le_trans (mul-le-mul_left (q / 2) (narrow_size r hr)) (omega arith))

  product-fits : SFits w64 product
  product-fits = small-fits product (omega (arith, product-size))

  shrunk-fits : SFits w64 (quot_z (kept product) (pos 2048))
  shrunk-fits = rw (to_z-of_z product-fits) (quot_fits w64 product 2048 product-fits)

  sum_is : sum ≡ quot_z (pos (q / 2) *ℤ r) (pos 2048) +ℤ m
  sum_is = rw (to_z-of_z shrunk-fits, to_z-of_z product-fits, product_is, cast_is w32 w64 tt m hm)

  pub sum_fits : SFits w64 sum
  sum_fits =
      let p = pos (q / 2) *ℤ r in
      let s : nat_abs p ≤ 2 ^ 46 = rw product_is at product-size in
      rw sum_is (small-fits (quot_z p (pos 2048) +ℤ m) (omega (arith, nat_abs-sum (quot_z p (pos 2048)) m, nat_abs-quotient p 2048, narrow_size m hm)))

  value-fits : SFits w64 (quot_z (kept sum) (pos 2))
  value-fits = rw (to_z-of_z sum_fits) (quot_fits w64 sum 2 sum_fits)

  pub value-is : quot_z (kept sum) (pos 2) ≡ row_value m r q
  unfolding row_value
  value-is = rw (to_z-of_z sum_fits, sum_is)

  pub value-word : of_z w64 (kept (quot_z (kept sum) (pos 2))) % 2 ^ 32 ≡ low 32 (row_value m r q)
  value-word = rw (to_z-of_z value-fits) (low-word _ value-fits ∙ ap (low 32) value-is)

-- a sample, scaled
pub started : (s : ℤ) → (low 32 s * 16384) % 2 ^ 32 ≡ low 32 (s *ℤ pos 16384)
unfolding low
started s = sym (low-mul 32 s (pos 16384))
