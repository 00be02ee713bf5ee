-- A float beside a power of two: what the test tells of its size. Assumes nothing.
use Rattle.std.proofs.Common.{◌≡◌, ℕ, ◌*◌, ◌/◌, ◌^◌, ◌<◌, ◌≤◌, Bool, true, false, not, ◌&&◌, ◌||◌, T, eqb, ltb, leb, ℤ, pos, refl, inl, inr, le_of_lt, eq-or-lt_of_le, mul-pos, le-div_iff_mul-le, arith, eqb→eq, leb→le, pow_pos, le-ltb, lt-ltb, eq-eqb, ne_eqb, leb-false, leb-true}
use lib.Dec.{nleb→lt}
use lib.Ieee.{fin, up, down, lt, eq, le}
use lib.Ieee.Fits.{down_pos, and_r}

-- `le` of two numbers that are not negative
le_test : (a b : ℕ) → (ltb a b || (eqb a b && true)) ≡ leb a b
le_test a b = go (leb a b) refl
  where
    go : (p : Bool) → leb a b ≡ p → (ltb a b || (eqb a b && true)) ≡ p
    go true e = elim (eq-or-lt_of_le (leb-true a b e)) [ inl q ↦ rw (le-ltb a b (omega arith), eq-eqb a b q) | inr l ↦ rw (lt-ltb a b l) ]
    go false e = let l : b < a = leb-false a b e in rw (le-ltb a b (le_of_lt l), ne_eqb a b (omega arith))

-- ---- the size m * 2 ^ e, cut to a whole number, beside 2 ^ h
module _ (h m : ℕ) (e : ℤ) where
  power_pos : 0 < 1 * 2 ^ h * down e
  power_pos = mul-pos (mul-pos (pow_pos 0) (pow_pos h)) (down_pos e)

  reaches : 1 * 2 ^ h * down e ≤ m * up e * 1 → 2 ^ h ≤ m * up e / down e
  reaches l = (le-div_iff_mul-le (down_pos e)).1 (omega arith)

  pub from_le : T (le (fin false 1 (pos h)) (fin false m e)) → 2 ^ h ≤ m * up e / down e
  unfolding le lt eq
  from_le t = reaches (leb→le (1 * 2 ^ h * down e) (m * up e * 1) (rw le_test at t))

  pub from-nle : T (not (le (fin false 1 (pos h)) (fin false m e))) → m * up e * 1 < 1 * 2 ^ h * down e
  unfolding le lt eq
  from-nle t = nleb→lt (1 * 2 ^ h * down e) (m * up e * 1) (rw le_test at t)

  pub not-le : T (le (fin false 1 (pos h)) (fin true m e)) → ⊥
  unfolding le lt eq
  not-le t = omega (arith, power_pos, eqb→eq (1 * 2 ^ h * down e) 0 (and_r (eqb (1 * 2 ^ h * down e) (m * up e * 1)) (eqb (1 * 2 ^ h * down e) 0) t))
