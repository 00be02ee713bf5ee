-- Negated integers.
use mathlib.Core.Path.{◌≡◌, refl, sym, ap, subst, ◌∙◌}
use Prim.Native.Nat.{ℕ, zero, suc, ◌<◌, ◌^◌}
use native.Mathlib.Omega.{arith}
use lib.IntN.{ℤ, pos, negsuc, neg_ℤ, ◌-ℤ◌, nat_abs, +ℤ_idl}
use mir.Syntax.{Width}
use mir.Val.{SFits, to_z, of_z, hbits}
use mir.Facts.{to_z_pos, to_z-of_z}

-- `0 - x` of a number below the width's sign bit
module _ (w : Width) {n : ℕ} (h : n < 2 ^ hbits w) where
  minus_is : pos 0 -ℤ to_z w n ≡ neg_ℤ (pos n)
  minus_is = ap (λ (z : ℤ). pos 0 -ℤ z) (to_z_pos w h) ∙ +ℤ_idl (neg_ℤ (pos n))

  pub minus-fits : SFits w (pos 0 -ℤ to_z w n)
  minus-fits = subst (SFits w) (sym minus_is) (fits n h)
    where
      fits : (m : ℕ) → m < 2 ^ hbits w → SFits w (neg_ℤ (pos m))
      fits zero l = record { sfits = l }
      fits (suc m) l = record { sfits = omega arith }

  pub minus-value : to_z w (of_z w (pos 0 -ℤ to_z w n)) ≡ neg_ℤ (pos n)
  minus-value = to_z-of_z minus-fits ∙ minus_is

pub nat_abs-neg : (z : ℤ) → nat_abs (neg_ℤ z) ≡ nat_abs z
nat_abs-neg (pos zero) = refl
nat_abs-neg (pos (suc n)) = refl
nat_abs-neg (negsuc n) = refl
