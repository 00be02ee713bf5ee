-- `narrow` of an f64 that is not negative, by its pattern b: the exponent's field b / 2 ^ 52 and the digits b % 2 ^ 52. Assumes nothing.
use Rattle.std.proofs.Common.{◌≡◌, ℕ, zero, suc, ◌+◌, ◌-◌, ◌*◌, ◌/◌, ◌%◌, ◌^◌, ◌<◌, ◌≤◌, min, Bool, false, sym, refl, ap, ◌∙◌, subst, inl, inr, lt_of_lt_of_le, lt_irrefl, mod-lt, mul_assoc, eq-or-lt_of_le, arith, lit≤, pow_pos, pow_mono, pow-add}
use lib.Ieee.{Float, nan, inf, fin, binary32, binary64, up, down, round, of_bits, of_fields}
use lib.Ieee.Exact.{HasValue}
use lib.Ieee.Fits.{down_pos}
use lib.Ieee.Nearest.{closest}
use lib.Ieee.Scale.{round_same}
use Rattle.float.specs.Casts.{narrow}
use Rattle.float.proofs.Sign.{fields-of}
use Rattle.float.proofs.Value.{subnormal-value, normal-value}
use Rattle.float.proofs.Rounding.{closest-zero, closest-bound, rounded}

-- `narrow` of a value of the size a / c
pub narrow-value : (v : Float) (s : Bool) (a c : ℕ) → 0 < c → HasValue v s a c → narrow v ≡ round binary32 s a c
unfolding narrow
narrow-value nan s a c C h = absurd h
narrow-value (inf t) s a c C h = absurd h
narrow-value (fin t m e) s a c C h = rw h.0 (round_same binary32 s (m * up e) (down e) a c (down_pos e) C h.1)

-- a fraction over another power of two
shifted : (q a b c d : ℕ) → a + b ≡ c + d → q * 2 ^ a * 2 ^ b ≡ q * 2 ^ c * 2 ^ d
shifted q a b c d e = rw (mul_assoc q (2 ^ a), mul_assoc q (2 ^ c), ← pow-add 2 a b, ← pow-add 2 c d, e)

-- the field x and the digits t: h of the 53 digits are cut off, and the result's exponent is k
field-rounds : (x t k h : ℕ) → t < 2 ^ 52 → 0 < x → (x ≡ 2047 → ⊥) → x + h ≡ k + 926 → 29 ≤ h → (0 < k → h ≡ 29)
    → narrow (of_fields binary64 false x t) ≡ of_bits binary32 (min (k * 2 ^ 23 + closest (2 ^ 52 + t) (2 ^ h)) (255 * 2 ^ 23))
field-rounds x t k h H X N e g z =
    let q = 2 ^ 52 + t in
    narrow-value (of_fields binary64 false x t) false (q * 2 ^ (x - 1)) (2 ^ 1074) (pow_pos 1074) (normal-value binary64 false x t X N)
    ∙ round_same binary32 false (q * 2 ^ (x - 1)) (2 ^ 1074) (q * 2 ^ k) (2 ^ (149 + h)) (pow_pos 1074) (pow_pos (149 + h)) (shifted q (x - 1) (149 + h) k 1074 (omega arith))
    ∙ rounded q k h (omega arith) g (λ (p : 0 < k). rw (z p) (omega arith))

-- less than half the smallest value
vanishes : (q h : ℕ) → q < 2 ^ 53 → 54 ≤ h → of_bits binary32 (min (0 * 2 ^ 23 + closest q (2 ^ h)) (255 * 2 ^ 23)) ≡ of_bits binary32 0
vanishes q h l g = let twice : q * 2 < 2 ^ 54 = omega arith in rw (closest-zero q (2 ^ h) (lt_of_lt_of_le twice (pow_mono g)))

tiny-field : (x t : ℕ) → t < 2 ^ 52 → x < 872 → narrow (of_fields binary64 false x t) ≡ of_bits binary32 0
tiny-field zero t H X =
    narrow-value (of_fields binary64 false 0 t) false (t * 2 ^ 0) (2 ^ 1074) (pow_pos 1074) (subnormal-value binary64 false t)
    ∙ rounded t 0 925 (omega arith) (lit≤ tt) (λ (p : 0 < 0). absurd (lt_irrefl 0 p))
    ∙ vanishes t 925 (omega arith) (lit≤ tt)
tiny-field (suc j) t H X = field-rounds (suc j) t 0 (925 - j) H (omega arith) (omega arith) (omega arith) (omega arith) (λ (p : 0 < 0). omega arith) ∙ vanishes (2 ^ 52 + t) (925 - j) (omega arith) (omega arith)

-- what `narrowed` ensures of its result
abbrev pub Gives : ℕ → ℕ → Type 0
Gives b r = (r ≤ 255 * 2 ^ 23) × (of_bits binary32 r ≡ narrow (of_bits binary64 b))

module _ (b : ℕ) (B : b ≤ 2047 * 2 ^ 52) where
  rest_lt : b % 2 ^ 52 < 2 ^ 52
  rest_lt = mod-lt b (pow_pos 52)

  by-fields : (r : ℕ) → narrow (of_fields binary64 false (b / 2 ^ 52) (b % 2 ^ 52)) ≡ of_bits binary32 r → of_bits binary32 r ≡ narrow (of_bits binary64 b)
  by-fields r e = sym (ap narrow (fields-of binary64 b (omega arith)) ∙ e)

  pub tiny : b / 2 ^ 52 < 872 → Gives b 0
  tiny h = (lit≤ tt, by-fields 0 (tiny-field (b / 2 ^ 52) (b % 2 ^ 52) rest_lt h))

  pub low : 872 ≤ b / 2 ^ 52 → b / 2 ^ 52 < 897 → Gives b (closest (2 ^ 52 + b % 2 ^ 52) (2 ^ (926 - b / 2 ^ 52)))
  low g h =
      let c = closest (2 ^ 52 + b % 2 ^ 52) (2 ^ (926 - b / 2 ^ 52)) in
      let C : c ≤ 2 ^ 24 = closest-bound (2 ^ 52 + b % 2 ^ 52) (926 - b / 2 ^ 52) (omega arith) (omega arith) in
      let same : min (0 * 2 ^ 23 + c) (255 * 2 ^ 23) ≡ c = omega arith in
      (omega arith, by-fields c (field-rounds (b / 2 ^ 52) (b % 2 ^ 52) 0 (926 - b / 2 ^ 52) rest_lt (omega arith) (omega arith) (omega arith) (omega arith) (λ (p : 0 < 0). omega arith) ∙ ap (of_bits binary32) same))

  pub high : 897 ≤ b / 2 ^ 52 → Gives b (min ((b / 2 ^ 52 - 897) * 2 ^ 23 + closest (2 ^ 52 + b % 2 ^ 52) (2 ^ 29)) (255 * 2 ^ 23))
  unfolding of_bits narrow
  high g = elim (eq-or-lt_of_le B) [
    | inl e ↦ subst (λ (z : ℕ). Gives z (min ((z / 2 ^ 52 - 897) * 2 ^ 23 + closest (2 ^ 52 + z % 2 ^ 52) (2 ^ 29)) (255 * 2 ^ 23))) (sym e) (lit≤ tt, refl)
    | inr l ↦ (omega arith, by-fields (min ((b / 2 ^ 52 - 897) * 2 ^ 23 + closest (2 ^ 52 + b % 2 ^ 52) (2 ^ 29)) (255 * 2 ^ 23)) (field-rounds (b / 2 ^ 52) (b % 2 ^ 52) (b / 2 ^ 52 - 897) 29 rest_lt (omega arith) (omega arith) (omega arith) (lit≤ tt) (λ (p : 0 < b / 2 ^ 52 - 897). refl)))
  ]
