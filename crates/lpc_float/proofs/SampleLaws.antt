-- A float from 2 ^ -40 up to 2 ^ 15 in magnitude, as a 16-bit sample, by its pattern: the digits, with the leading one put back, are shifted to a whole number, which has the pattern's sign.
use Rattle.std.proofs.Common.{◌≡◌, ℕ, zero, suc, ◌+◌, ◌-◌, ◌*◌, ◌/◌, ◌%◌, ◌^◌, ◌<◌, ◌≤◌, min, Bool, true, false, cond, T, leb, pos, neg_ℤ, sym, refl, ap, ◌∙◌, subst, lt_of_lt_of_le, div-lt_iff_lt-mul, arith, pow_pos, pow_mono, pow-add, shr-shr, leb-false, leb-true}
use lib.Pow.{shl-shr}
use lib.Ieee.{Float, nan, inf, fin, binary32, up, down, fits, of_fields, of_bits, to_bits, to_signed}
use lib.Ieee.Bits.{of_bits-to_bits}
use lib.Ieee.Exact.{HasValue}
use lib.Ieee.Fits.{down_pos}
use lib.Ieee.Nearest.{div_same}
use Rattle.base.specs.Words.{low}
use Rattle.float.proofs.Value.{normal-value}

-- ---- a value of the size a / c below 2 ^ 15

signed-value : (v : Float) (s : Bool) (a c : ℕ) → 0 < c → HasValue v s a c → a / c < 2 ^ 15 → to_signed 15 v ≡ cond s (neg_ℤ (pos (a / c))) (pos (a / c))
unfolding to_signed
signed-value nan s a c C h l = absurd h
signed-value (inf t) s a c C h l = absurd h
signed-value (fin t m e) s a c C h l =
    let same : m * up e / down e ≡ a / c = div_same (m * up e) (down e) a c (down_pos e) C h.1 in
    let high : min (a / c) (2 ^ 15) ≡ a / c = omega arith in
    let highest : min (a / c) (2 ^ 15 - 1) ≡ a / c = omega arith in
    rw (same, h.0, high, highest)

-- ---- the digits, shifted

shifted : (q j : ℕ) → j ≤ 149 → q / 2 ^ (149 - j) ≡ q * 2 ^ j / 2 ^ 149
shifted q j h =
    let e : j + (149 - j) ≡ 149 = omega arith in
    ap (λ (k : ℕ). k / 2 ^ (149 - j)) (sym (shl-shr q j)) ∙ shr-shr (q * 2 ^ j) j (149 - j) ∙ ap (λ (k : ℕ). q * 2 ^ j / 2 ^ k) e

whole-low : (q k : ℕ) → q < 2 ^ 24 → 9 ≤ k → q / 2 ^ k < 2 ^ 15
whole-low q k h l =
    let p : 24 ≤ 15 + k = omega arith in
    (div-lt_iff_lt-mul (pow_pos k)).1 (rw (← pow-add 2 15 k) (lt_of_lt_of_le h (pow_mono p)))

-- ---- the words

sign_word : (b n : ℕ) → b < 2 ^ 32 → n < 2 ^ 15 → (n + b / 2 ^ 31 * (65536 - 2 * n)) % 2 ^ 16 ≡ low 16 (cond (leb (2 ^ 31) b) (neg_ℤ (pos n)) (pos n))
unfolding low
sign_word b n B h = go (leb (2 ^ 31) b) refl
  where
    negated : (m : ℕ) → m < 2 ^ 15 → (m + 1 * (65536 - 2 * m)) % 2 ^ 16 ≡ low 16 (neg_ℤ (pos m))
    negated zero l = refl
    negated (suc m) l = omega arith

    kept : (m : ℕ) → (m + 0 * (65536 - 2 * m)) % 2 ^ 16 ≡ low 16 (pos m)
    kept m = omega arith

    go : (t : Bool) → leb (2 ^ 31) b ≡ t → (n + b / 2 ^ 31 * (65536 - 2 * n)) % 2 ^ 16 ≡ low 16 (cond t (neg_ℤ (pos n)) (pos n))
    go true e =
        let l : 2 ^ 31 ≤ b = leb-true (2 ^ 31) b e in
        let one : b / 2 ^ 31 ≡ 1 = omega arith in
        rw one (negated n h)
    go false e =
        let l : b < 2 ^ 31 = leb-false (2 ^ 31) b e in
        let none : b / 2 ^ 31 ≡ 0 = omega arith in
        rw none (kept n)

-- ---- a pattern whose exponent is from 87 to 141

of_bits_is : (b : ℕ) → of_bits binary32 b ≡ of_fields binary32 (leb (2 ^ 31) b) (b % 2 ^ 31 / 2 ^ 23) (b % 2 ^ 23)
unfolding of_bits
of_bits_is b = refl

module _ (y : Float) (F : T (fits binary32 y)) (b : ℕ) (is : b ≡ to_bits binary32 y) (B : b < 2 ^ 32) (lo : 87 ≤ b % 2 ^ 31 / 2 ^ 23) (hi : b % 2 ^ 31 / 2 ^ 23 < 142) where
  abbrev x : ℕ
  x = b % 2 ^ 31 / 2 ^ 23

  abbrev q : ℕ
  q = 2 ^ 23 + b % 2 ^ 23

  abbrev whole : ℕ
  whole = q / 2 ^ (150 - x)

  pub cut_low : whole < 2 ^ 15
  cut_low =
      let l : q < 2 ^ 24 = omega arith in
      let k : 9 ≤ 150 - x = omega arith in
      whole-low q (150 - x) l k

  read : y ≡ of_fields binary32 (leb (2 ^ 31) b) x (b % 2 ^ 23)
  read = sym (of_bits-to_bits binary32 y F) ∙ ap (of_bits binary32) (sym is) ∙ of_bits_is b

  cut-is : whole ≡ q * 2 ^ (x - 1) / 2 ^ 149
  cut-is =
      let j : x - 1 ≤ 149 = omega arith in
      let e : 150 - x ≡ 149 - (x - 1) = omega arith in
      ap (λ (k : ℕ). q / 2 ^ k) e ∙ shifted q (x - 1) j

  value : HasValue y (leb (2 ^ 31) b) (q * 2 ^ (x - 1)) (2 ^ 149)
  value =
      let some : 0 < x = omega arith in
      let other : x ≡ 255 → ⊥ = λ e. omega arith in
      subst (λ (v : Float). HasValue v (leb (2 ^ 31) b) (q * 2 ^ (x - 1)) (2 ^ 149)) (sym read) (normal-value binary32 (leb (2 ^ 31) b) x (b % 2 ^ 23) some other)

  pub sample-word : (whole + b / 2 ^ 31 * (65536 - 2 * whole)) % 2 ^ 16 ≡ low 16 (to_signed 15 y)
  sample-word =
      let l : q * 2 ^ (x - 1) / 2 ^ 149 < 2 ^ 15 = rw (← cut-is) cut_low in
      sign_word b whole B cut_low ∙ ap (low 16) (sym (signed-value y (leb (2 ^ 31) b) (q * 2 ^ (x - 1)) (2 ^ 149) (pow_pos 149) value l ∙ rw (← cut-is)))
