-- A value that is not negative, rounded to binary32: the pattern of the result. Assumes nothing.
use Rattle.std.proofs.Common.{◌≡◌, ℕ, zero, suc, ◌+◌, ◌-◌, ◌*◌, ◌/◌, ◌%◌, ◌^◌, ◌<◌, ◌≤◌, min, Bool, true, false, cond, not, T, eqb, ltb, leb, sym, refl, ap, ◌∙◌, subst, inl, inr, le_trans, le_of_eq, lt_of_lt_of_le, le_of_suc-le-suc, lt_of_le_of_lt, add-zero, le_of_lt, mul-le-mul_right, mod-eq_of_lt, zero-lt-suc, mul_assoc, mul_comm, mul-le-mul, eq-or-lt_of_le, mul-pos, pow-suc, lt_of_not-le, le-div_iff_mul-le, zero-add, not-le_of_lt, le_of_mul-le-mul_right, add-one, arith, lit<, lit≤, ltb→lt, nltb→le, pow_pos, pow_mono, pow-add, shl_lt, shr-shr, shr_lt, ltb-false, ltb-true, le-ltb, lt-ltb, eq-eqb, ne_eqb, le-leb}
use Prim.Native.Nat.{compare, Ordering}
use native.Mathlib.Nat.{div-eq_of_lt, min-eq_left, min-eq_right}
use borrow.Author.Tests.{lt-leb}
use lib.Dec.{is_le, compare_is_eq}
use lib.Pow.{shl-shr}
use lib.Ieee.{inf, binary32, size, nearest, odd, units, round, of_bits}
use lib.Ieee.Bits.{of_bits-to_bits}
use lib.Ieee.Digits.{size-lt, size-le}
use lib.Ieee.Exact.{odd_sign}
use lib.Ieee.Fits.{odd-fits, nearest-le, round_is, core}
use lib.Ieee.Nearest.{closest, closest_same, nearest-ge}
use mir.Val.{bool_byte}
use Rattle.float.proofs.Value.{weight, bits_of}

-- ---- the nearest whole number, by the two tests on what is left over
by_tests : (q : ℕ) (o : Ordering) → nearest q o ≡ cond (compare_is_eq o) (q + q % 2) (cond (is_le o) q (suc q))
by_tests q Ordering.lt = refl
by_tests q Ordering.eq = refl
by_tests q Ordering.gt = refl

module _ (q n : ℕ) where
  tests : closest q n ≡ cond (eqb (q % n * 2) n) (q / n + q / n % 2) (cond (leb (q % n * 2) n) (q / n) (suc (q / n)))
  tests = by_tests (q / n) (compare (q % n * 2) n)

  goes_down : q % n * 2 < n → closest q n ≡ q / n
  goes_down h = rw (tests, ne_eqb (q % n * 2) n (omega arith), le-leb (q % n * 2) n (le_of_lt h))

  goes-up : n < q % n * 2 → closest q n ≡ suc (q / n)
  goes-up h = rw (tests, ne_eqb (q % n * 2) n (omega arith), lt-leb (q % n * 2) n h)

  goes-even : n ≤ q % n * 2 → q % n * 2 ≤ n → closest q n ≡ q / n + q / n % 2
  goes-even h k = rw (tests, eq-eqb (q % n * 2) n (omega arith))

  -- the three in one test: more than a half goes up, and a half where the quotient is odd
  pub goes_by : q / n + bool_byte (ltb n (q % n * 2 + q / n % 2)) ≡ closest q n
  goes_by = go (ltb n twice) refl
    where
      twice : ℕ
      twice = q % n * 2

      kept : ℕ
      kept = q / n

      up : n < twice + kept % 2 → closest q n ≡ suc kept → kept + bool_byte (ltb n (twice + kept % 2)) ≡ closest q n
      up l e = rw (lt-ltb n (twice + kept % 2) l) (add-one kept ∙ sym e)

      down : twice + kept % 2 ≤ n → closest q n ≡ kept → kept + bool_byte (ltb n (twice + kept % 2)) ≡ closest q n
      down l e = rw (le-ltb n (twice + kept % 2) l) (add-zero kept ∙ sym e)

      even : (p : ℕ) → kept % 2 ≡ p → n ≡ twice → kept + bool_byte (ltb n (twice + kept % 2)) ≡ closest q n
      even zero o e = down (omega arith) (goes-even (omega arith) (omega arith) ∙ rw o (add-zero kept))
      even (suc p) o e = let one : kept % 2 ≡ 1 = omega arith in up (omega arith) (goes-even (omega arith) (omega arith) ∙ rw one (add-one kept))

      go : (b : Bool) → ltb n twice ≡ b → kept + bool_byte (ltb n (twice + kept % 2)) ≡ closest q n
      go true e = let l : n < twice = ltb-true n twice e in up (omega arith) (goes-up l)
      go false e =
          elim (eq-or-lt_of_le (ltb-false n twice e)) [
            | inl h ↦ even (kept % 2) refl (sym h)
            | inr h ↦ down (omega arith) (goes_down h)
          ]

  closest-le : closest q n ≤ suc (q / n)
  closest-le = nearest-le (q / n) (compare (q % n * 2) n)

  closest-ge : q / n ≤ closest q n
  closest-ge = nearest-ge (q / n) (compare (q % n * 2) n)

  -- less than a half goes to 0
  pub closest-zero : q * 2 < n → closest q n ≡ 0
  closest-zero h =
      let l : q < n = omega arith in
      goes_down (rw (mod-eq_of_lt l) h) ∙ div-eq_of_lt l

-- ---- the pattern of r * 2 ^ k of binary32's smallest values
pub size-over : (n j : ℕ) → 2 ^ j ≤ n → j < size n
size-over n j h = lt_of_not-le (λ (g : size n ≤ j). not-le_of_lt (lt_of_lt_of_le (size-lt n) (pow_mono g)) h)

-- how many digits are dropped of a number of z digits
pub dropped : (z k : ℕ) → z ≤ 24 + k → (0 < k → 23 + k < z) → z - 24 ≡ k
dropped z zero h g = omega arith
dropped z (suc k) h g = let p : 23 + suc k < z = g (zero-lt-suc k) in omega arith

weighs-lt : (r k : ℕ) → r < 2 ^ 24 → (0 < k → 2 ^ 23 ≤ r) → weight binary32 (r * 2 ^ k) ≡ k * 2 ^ 23 + r
weighs-lt r k l g =
    let n = r * 2 ^ k in
    let is : size n - 24 ≡ k = dropped (size n) k (size-le n (24 + k) (shl_lt 24 k l)) (λ (p : 0 < k). size-over n (23 + k) (le_trans (le_of_eq (pow-add 2 23 k)) (mul-le-mul_right (2 ^ k) (g p)))) in
    rw (is, shl-shr r k)

-- a carry into the next digit
weighs-eq : (k : ℕ) → weight binary32 (2 ^ 24 * 2 ^ k) ≡ k * 2 ^ 23 + 2 ^ 24
weighs-eq k = ap (weight binary32) (halved (2 ^ k) (2 ^ suc k) (pow-suc 2 k)) ∙ weighs-lt (2 ^ 23) (suc k) (lit< tt) (λ (p : 0 < suc k). lit≤ tt) ∙ omega arith
  where
    halved : (a b : ℕ) → b ≡ a * 2 → 2 ^ 24 * a ≡ 2 ^ 23 * b
    halved a b e = omega arith

pub weighs : (r k : ℕ) → r ≤ 2 ^ 24 → (0 < k → 2 ^ 23 ≤ r) → weight binary32 (r * 2 ^ k) ≡ k * 2 ^ 23 + r
weighs r k h g = elim (eq-or-lt_of_le h) [ inl e ↦ rw e (weighs-eq k) | inr l ↦ weighs-lt r k l g ]

-- r * 2 ^ k is below 2 ^ 277 of them, where the result is finite, or not
module _ (r k : ℕ) (h : r ≤ 2 ^ 24) (g : 0 < k → 2 ^ 23 ≤ r) where
  under : r * 2 ^ k < 2 ^ 277 → k * 2 ^ 23 + r ≤ 255 * 2 ^ 23
  under l =
      let few : k < 254 = lt_of_not-le (λ (p : 254 ≤ k). not-le_of_lt l (mul-le-mul (g (lt_of_lt_of_le (lit< tt) p)) (pow_mono p))) in
      omega arith

  beyond : 2 ^ 277 ≤ r * 2 ^ k → 255 * 2 ^ 23 ≤ k * 2 ^ 23 + r
  beyond l = elim (eq-or-lt_of_le many) [
    | inl e ↦
        let t : 2 ^ 24 ≤ r = le_of_mul-le-mul_right (subst (λ (z : ℕ). 2 ^ 277 ≤ r * 2 ^ z) (sym e) l) (pow_pos 253) in
        omega arith
    | inr p ↦ let t : 2 ^ 23 ≤ r = g (lt_of_lt_of_le (lit< tt) p) in omega arith
  ]
    where
      many : 253 ≤ k
      many = le_of_suc-le-suc (lt_of_not-le (λ (p : suc k ≤ 253). not-le_of_lt (lt_of_le_of_lt (mul-le-mul h (pow_mono (le_of_suc-le-suc p))) (lit< tt)) l))

  -- the pattern, which is the infinity's at most
  capped : of_bits binary32 (min (k * 2 ^ 23 + r) (255 * 2 ^ 23)) ≡ units binary32 false r k
  unfolding units
  capped = go (ltb (r * 2 ^ k) (2 ^ 277)) (ltb→lt (r * 2 ^ k) (2 ^ 277)) (nltb→le (r * 2 ^ k) (2 ^ 277))
    where
      go : (b : Bool) → (T b → r * 2 ^ k < 2 ^ 277) → (T (not b) → 2 ^ 277 ≤ r * 2 ^ k) → of_bits binary32 (min (k * 2 ^ 23 + r) (255 * 2 ^ 23)) ≡ cond b (odd 25 false r k 149) (inf false)
      go true l n =
          let v = odd 25 false r k 149 in
          let bits = rw (zero-add, shl-shr) at (bits_of binary32 v false (r * 2 ^ k) (2 ^ 149) (pow_pos 149) (odd_sign 25 false r k 149)) in
          ap (of_bits binary32) (min-eq_left (under (l tt)) ∙ sym (weighs r k h g) ∙ sym bits) ∙ of_bits-to_bits binary32 v (odd-fits binary32 25 false r k (omega arith) h (l tt))
      go false l n = rw (min-eq_right (beyond (n tt))) (unfold of_bits in refl)

-- ---- q * 2 ^ k / 2 ^ h smallest values, of which k digits are dropped
round-of : (q k h : ℕ) → size (q * 2 ^ k / 2 ^ h) - 24 ≡ k → round binary32 false (q * 2 ^ k) (2 ^ (149 + h)) ≡ units binary32 false (closest q (2 ^ h)) k
round-of q k h e =
    let n = q * 2 ^ k * 2 ^ 149 in
    let d = 2 ^ (149 + h) in
    let whole : n / d ≡ q * 2 ^ k / 2 ^ h = sym (shr-shr n 149 h) ∙ ap (λ (z : ℕ). z / 2 ^ h) (shl-shr (q * 2 ^ k) 149) in
    let same : n * 2 ^ h ≡ q * (d * 2 ^ k) = simp (mul_assoc, mul_comm, pow-add) in
    round_is binary32 false (q * 2 ^ k) d
    ∙ ap (core binary32 false n d) (ap (λ (z : ℕ). size z - 24) whole ∙ e)
    ∙ ap (λ (z : ℕ). units binary32 false z k) (closest_same n (d * 2 ^ k) q (2 ^ h) (mul-pos (pow_pos (149 + h)) (pow_pos k)) (pow_pos h) same)

pub closest-bound : (q h : ℕ) → q < 2 ^ 53 → 29 ≤ h → closest q (2 ^ h) ≤ 2 ^ 24
closest-bound q h Q H = le_trans (closest-le q (2 ^ h)) (shr_lt 24 h (lt_of_lt_of_le Q (pow_mono {i = 53} {j = 24 + h} (omega arith))))

module _ (q k h : ℕ) (Q : q < 2 ^ 53) (H : 29 ≤ h) where
  pub rounded : (0 < k → 2 ^ (23 + h) ≤ q) → round binary32 false (q * 2 ^ k) (2 ^ (149 + h)) ≡ of_bits binary32 (min (k * 2 ^ 23 + closest q (2 ^ h)) (255 * 2 ^ 23))
  rounded g =
      let n = q * 2 ^ k / 2 ^ h in
      round-of q k h (dropped (size n) k most least) ∙ sym (capped (closest q (2 ^ h)) k (closest-bound q h Q H) kept)
    where
      most : size (q * 2 ^ k / 2 ^ h) ≤ 24 + k
      most = size-le (q * 2 ^ k / 2 ^ h) (24 + k) (shr_lt (24 + k) h (lt_of_lt_of_le (shl_lt 53 k Q) (pow_mono {i = 53 + k} {j = 24 + k + h} (omega arith))))

      least : 0 < k → 23 + k < size (q * 2 ^ k / 2 ^ h)
      least p =
          let same : 2 ^ (23 + k) * 2 ^ h ≡ 2 ^ (23 + h) * 2 ^ k = simp (mul_assoc, mul_comm, pow-add) in
          size-over (q * 2 ^ k / 2 ^ h) (23 + k) ((le-div_iff_mul-le (pow_pos h)).1 (le_trans (le_of_eq same) (mul-le-mul_right (2 ^ k) (g p))))

      kept : 0 < k → 2 ^ 23 ≤ closest q (2 ^ h)
      kept p = le_trans ((le-div_iff_mul-le (pow_pos h)).1 (le_trans (le_of_eq (sym (pow-add 2 23 h))) (g p))) (closest-ge q (2 ^ h))
