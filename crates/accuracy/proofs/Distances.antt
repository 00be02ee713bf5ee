-- How far integers with given signs and magnitudes are apart, and which is the larger.
use mathlib.Core.Path.{◌≡◌, sym, ap, ◌∙◌}
use Prim.Native.Nat.{ℕ, zero, suc, ◌+◌, ◌-◌, ◌≤◌}
use native.Mathlib.Omega.{arith}
use borrow.Author.Tests.{lt-ltb, le-ltb}
use lib.Dec.{le→leb}
use lib.IntN.{ℤ, pos, neg_ℤ, nat_abs, sub_ℕ, ◌+ℤ◌, ◌-ℤ◌, neg_ℤ-+ℤ, neg_ℤ-neg_ℤ}
use lib.Signed.{◌≤ℤ◌}
use Rattle.base.proofs.CaseLaws.{by_order}
use Rattle.ulaw.proofs.Signs.{nat_abs-neg}
use Rattle.accuracy.specs.Claims.{distance}

-- how far two magnitudes are apart (a difference below 0 is 0)
abbrev pub gap : ℕ → ℕ → ℕ
gap a b = (b - a) + (a - b)

difference : (a b : ℕ) → nat_abs (sub_ℕ b a) ≡ gap a b
difference a b = by_order b a (λ l. rw (lt-ltb b a l) (omega arith)) (λ l. rw (le-ltb b a l) (omega arith))

pub above_zero : (a b : ℕ) → distance (pos a) (pos b) ≡ gap a b
above_zero zero b = omega arith
above_zero (suc a) b = difference (suc a) b

pub below-zero : (a b : ℕ) → distance (neg_ℤ (pos a)) (neg_ℤ (pos b)) ≡ gap a b
below-zero a b = ap nat_abs (sym (neg_ℤ-+ℤ (pos b) (neg_ℤ (pos a)))) ∙ nat_abs-neg (pos b -ℤ pos a) ∙ above_zero a b

pub downwards : (a b : ℕ) → distance (pos a) (neg_ℤ (pos b)) ≡ a + b
downwards a b = ap nat_abs (sym (neg_ℤ-+ℤ (pos b) (pos a))) ∙ nat_abs-neg (pos (b + a)) ∙ omega arith

pub upwards : (a b : ℕ) → distance (neg_ℤ (pos a)) (pos b) ≡ a + b
upwards a b = ap (λ (z : ℤ). nat_abs (pos b +ℤ z)) (neg_ℤ-neg_ℤ (pos a)) ∙ omega arith

-- ---- the order

pub neg-pos : (a b : ℕ) → neg_ℤ (pos a) ≤ℤ pos b
neg-pos zero b = record { le = le→leb 0 b (omega arith) }
neg-pos (suc a) b = record { le = tt }

pub neg-neg : (a b : ℕ) → b ≤ a → neg_ℤ (pos a) ≤ℤ neg_ℤ (pos b)
neg-neg zero b h = let e : b ≡ zero = omega arith in rw e (neg-pos zero zero)
neg-neg (suc a) zero h = neg-pos (suc a) zero
neg-neg (suc a) (suc b) h = record { le = le→leb b a (omega arith) }
