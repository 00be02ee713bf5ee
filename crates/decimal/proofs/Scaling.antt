-- num / den to the nearest f32: num / den is n / u * 2 ^ (k - 149), and where n / u has 24 binary digits, its nearest whole number and k are the
-- f32's pattern.
use mathlib.Core.Path.{◌≡◌, refl, sym, ap, ◌∙◌}
use mathlib.Core.Bool.{Bool, true, false, cond}
use Prim.Native.Nat.{ℕ, suc, ◌+◌, ◌-◌, ◌*◌, ◌/◌, ◌%◌, ◌^◌, ◌≤◌, ◌<◌, compare}
use native.Mathlib.Nat.{le_refl, le_trans, le_of_eq, le_of_lt, lt_of_lt_of_le, lt_of_le_of_lt, lt_of_not-le, not-le_of_lt, le_of_suc-le-suc, mul_assoc, mul_comm, mul_left_comm, mul_right_comm, mul-one, zero-mul, mul-pos, mul-le-mul, mul-le-mul_right, mul-lt-mul_of_pos_right, le-div_iff_mul-le, div-lt_iff_lt-mul, pow-suc}
use native.Mathlib.Numerals.{add-one}
use native.Mathlib.Omega.{arith}
use lib.Dec.{lit<}
use lib.Pow.{pow-add, pow_pos, pow_mono, shl-shr}
use lib.Ieee.{binary32, size, units, round, of_bits, to_bits}
use lib.Ieee.Bits.{of_bits-to_bits}
use lib.Ieee.Digits.{size-le}
use lib.Ieee.Exact.{units_val}
use lib.Ieee.Fits.{round_is, round-fits, core}
use lib.Ieee.Nearest.{closest, closest_same, div_same, nearest-ge}
use lib.Ieee.Scale.{round_same}
use Rattle.float.proofs.Value.{bits_of}
use Rattle.float.proofs.Rounding.{size-over, dropped, weighs}

-- num / den is n / u * 2 ^ (k - 149)
abbrev pub Scaled : ℕ → ℕ → ℕ → ℕ → ℕ → Type 0
Scaled num den n u k = n * 2 ^ k * den ≡ num * 2 ^ 149 * u

module _ (num den n u k : ℕ) (h : Scaled num den n u k) where
  -- n is doubled, or u is
  pub up : 0 < k → Scaled num den (n * 2) u (k - 1)
  up K =
      let e : suc (k - 1) ≡ k = omega arith in
      let p : 2 * 2 ^ (k - 1) ≡ 2 ^ k = mul_comm 2 (2 ^ (k - 1)) ∙ sym (pow-suc 2 (k - 1)) ∙ ap (λ (z : ℕ). 2 ^ z) e in
      ap (λ (z : ℕ). z * den) (mul_assoc n 2 (2 ^ (k - 1)) ∙ ap (λ (z : ℕ). n * z) p) ∙ h

  pub down : Scaled num den n (u * 2) (k + 1)
  down =
      ap (λ (z : ℕ). n * z * den) (ap (λ (z : ℕ). 2 ^ z) (add-one k) ∙ pow-suc 2 k)
      ∙ ap (λ (z : ℕ). z * den) (sym (mul_assoc n (2 ^ k) 2))
      ∙ mul_right_comm (n * 2 ^ k) 2 den
      ∙ ap (λ (z : ℕ). z * 2) h
      ∙ mul_assoc (num * 2 ^ 149) u 2

  -- k stays a field of an f32's exponent
  pub k-low : 0 < num → 0 < u → n < 2 ^ 61 → den < 2 ^ 37 → 0 < k
  k-low NUM U N D = lt_of_not-le none
    where
      none : k ≤ 0 → ⊥
      none z =
          let most : n * 2 ^ k * den ≤ 2 ^ 61 * 2 ^ 0 * 2 ^ 37 = mul-le-mul (mul-le-mul (le_of_lt N) (pow_mono z)) (le_of_lt D) in
          let least : 1 * 2 ^ 149 * 1 ≤ num * 2 ^ 149 * u = mul-le-mul (mul-le-mul NUM (le_refl (2 ^ 149))) U in
          not-le_of_lt (lit< {m = 2 ^ 61 * 2 ^ 0 * 2 ^ 37} {n = 1 * 2 ^ 149 * 1} tt) (le_trans least (le_trans (le_of_eq (sym h)) most))

  pub k-high : num < 2 ^ 40 → 0 < u → 0 < den → 2 ^ 23 * u ≤ n → k ≤ 165
  k-high NUM U D N = le_of_suc-le-suc (lt_of_not-le many)
    where
      many : 166 ≤ k → ⊥
      many z =
          let least : 2 ^ 23 * u * 2 ^ 166 * 1 ≤ n * 2 ^ k * den = mul-le-mul (mul-le-mul N (pow_mono z)) D in
          let most : num * 2 ^ 149 * u < 2 ^ 40 * 2 ^ 149 * u = mul-lt-mul_of_pos_right (mul-lt-mul_of_pos_right NUM (pow_pos 149)) U in
          let same : 2 ^ 23 * u * 2 ^ 166 * 1 ≡ 2 ^ 40 * 2 ^ 149 * u = mul-one (2 ^ 23 * u * 2 ^ 166) ∙ mul_right_comm (2 ^ 23) u (2 ^ 166) in
          not-le_of_lt most (le_trans (le_of_eq (sym same)) (le_trans least (le_of_eq h)))

-- ---- n / u of 24 binary digits
module _ (n u : ℕ) (U : 0 < u) (L : 2 ^ 23 * u ≤ n) (H : n < 2 ^ 24 * u) where
  pub least : 2 ^ 23 ≤ closest n u
  least = le_trans ((le-div_iff_mul-le U).1 L) (nearest-ge (n / u) (compare (n % u * 2) u))

  -- of n / u * 2 ^ k binary32 drops k digits
  drops : (k : ℕ) → size (n * 2 ^ k / u) - 24 ≡ k
  drops k = dropped (size (n * 2 ^ k / u)) k (size-le (n * 2 ^ k / u) (24 + k) most) (λ p. size-over (n * 2 ^ k / u) (23 + k) some)
    where
      most : n * 2 ^ k / u < 2 ^ (24 + k)
      most = (div-lt_iff_lt-mul U).1 (lt_of_lt_of_le (mul-lt-mul_of_pos_right H (pow_pos k)) (le_of_eq (mul_right_comm (2 ^ 24) u (2 ^ k) ∙ ap (λ (z : ℕ). z * u) (sym (pow-add 2 24 k)))))

      some : 2 ^ (23 + k) ≤ n * 2 ^ k / u
      some = (le-div_iff_mul-le U).1 (le_trans (le_of_eq (ap (λ (z : ℕ). z * u) (pow-add 2 23 k) ∙ mul_right_comm (2 ^ 23) (2 ^ k) u)) (mul-le-mul_right (2 ^ k) L))

  round-of : (s : Bool) (k : ℕ) → round binary32 s (n * 2 ^ k) (u * 2 ^ 149) ≡ units binary32 s (closest n u) k
  round-of s k =
      let a = n * 2 ^ k * 2 ^ 149 in
      let d = u * 2 ^ 149 in
      let P : 0 < d = mul-pos U (pow_pos 149) in
      let quotient : a / d ≡ n * 2 ^ k / u = div_same a d (n * 2 ^ k) u P U (mul_assoc (n * 2 ^ k) (2 ^ 149) u ∙ ap (λ (z : ℕ). n * 2 ^ k * z) (mul_comm (2 ^ 149) u)) in
      let same : a * u ≡ n * (d * 2 ^ k) = simp (mul_assoc, mul_comm, mul_left_comm) in
      round_is binary32 s (n * 2 ^ k) d
      ∙ ap (core binary32 s a d) (ap (λ (z : ℕ). size z - 24) quotient ∙ drops k)
      ∙ ap (λ (z : ℕ). units binary32 s z k) (closest_same a (d * 2 ^ k) n u (mul-pos P (pow_pos k)) U same)

  -- the pattern
  pub rounds : (s : Bool) (num den k : ℕ) → 0 < den → Scaled num den n u k → k ≤ 165 → closest n u ≤ 2 ^ 24
      → of_bits binary32 (cond s (2 ^ 31) 0 + (k * 2 ^ 23 + closest n u)) ≡ round binary32 s num den
  rounds s num den k D h K most =
      let r = closest n u in
      let v = round binary32 s num den in
      let is : v ≡ units binary32 s r k = round_same binary32 s num den (n * 2 ^ k) (u * 2 ^ 149) D (mul-pos U (pow_pos 149)) (ap (λ (z : ℕ). num * z) (mul_comm u (2 ^ 149)) ∙ sym (mul_assoc num (2 ^ 149) u) ∙ sym h) ∙ round-of s k in
      let under : r * 2 ^ k < 2 ^ 277 = lt_of_le_of_lt (mul-le-mul most (pow_mono K)) (lit< tt) in
      let bits = rw (shl-shr) at (bits_of binary32 (units binary32 s r k) s (r * 2 ^ k) (2 ^ 149) (pow_pos 149) (units_val binary32 s r k under)) in
      ap (of_bits binary32) (sym (ap (to_bits binary32) is ∙ bits ∙ ap (λ (z : ℕ). cond s (2 ^ 31) 0 + z) (weighs r k most (λ (p : 0 < k). least))))
      ∙ of_bits-to_bits binary32 v (round-fits binary32 s num den)

-- ---- 0 / den
pub zero-rounds : (s : Bool) (den : ℕ) → 0 < den → of_bits binary32 (cond s (2 ^ 31) 0 + 0) ≡ round binary32 s 0 den
unfolding of_bits round
zero-rounds s den D = by_sign s ∙ round_same binary32 s 0 1 0 den (lit< tt) D (zero-mul den)
  where
    by_sign : (t : Bool) → of_bits binary32 (cond t (2 ^ 31) 0 + 0) ≡ round binary32 t 0 1
    by_sign true = refl
    by_sign false = refl
