-- What mu-law makes of a magnitude up to 32,635: in segment s the biased magnitude is rounded to the middle of the 2 ^ (s + 3) numbers that
-- have its five highest bits.
use mathlib.Core.Path.{◌≡◌, refl, sym, ap, ◌∙◌}
use Prim.Native.Nat.{ℕ, ◌+◌, ◌-◌, ◌*◌, ◌/◌, ◌%◌, ◌^◌, ◌<◌, ◌≤◌}
use native.Mathlib.Nat.{mul_assoc, add-mul, le-div_iff_mul-le, div-lt_iff_lt-mul}
use native.Mathlib.Omega.{arith}
use lib.Count.{count_leading_zeros}
use lib.Pow.{pow-add, pow_pos}
use Rattle.base.proofs.CaseLaws.{by_order}
use Rattle.ulaw.specs.Ulaw.{decision_value, quantised_value, last_interval}
use Rattle.ulaw.proofs.Intervals.{enclosed-last, biased, biased-range}
use Rattle.ulaw.proofs.Segments.{Segment, segment, coded}
use Rattle.accuracy.specs.Claims.{highest_bit}

-- the magnitude that comes back for a magnitude
abbrev pub back : ℕ → ℕ
back v = 4 * quantised_value (last_interval 127 v)

-- a quantised value and its bias, at 16 bits
pub with-bias : (m : ℕ) → m < 128 → 4 * quantised_value m + 132 ≡ 4 * biased m
unfolding quantised_value
with-bias m h = omega (arith, (biased-range m h).0)

-- the powers of two of a segment
pub powers : (s : ℕ) → (2 ^ (s + 2) ≡ 2 ^ s * 4) × (2 ^ (s + 3) ≡ 2 ^ s * 8) × (2 ^ (s + 7) ≡ 2 ^ s * 128) × (2 ^ (s + 8) ≡ 2 ^ s * 256)
powers s = (pow-add 2 s 2, pow-add 2 s 3, pow-add 2 s 7, pow-add 2 s 8)

-- ---- a biased magnitude b of segment s

abbrev pub middle : ℕ → ℕ → ℕ
middle b s = b / 2 ^ (s + 3) * 2 ^ (s + 3) + 2 ^ (s + 2)

-- its five highest bits
pub highest : (b s : ℕ) → 2 ^ (s + 7) ≤ b → b < 2 ^ (s + 8) → (16 ≤ b / 2 ^ (s + 3)) × (b / 2 ^ (s + 3) < 32)
highest b s l h =
    let e = powers s in
    ((le-div_iff_mul-le (pow_pos (s + 3))).1 (omega arith), (div-lt_iff_lt-mul (pow_pos (s + 3))).1 (omega arith))

-- the last four of these number its interval in the segment, whose quantised value is the middle
middle-is : (b s : ℕ) → 2 ^ (s + 7) ≤ b → b < 2 ^ (s + 8) → 4 * biased (16 * s + b / 2 ^ (s + 3) % 16) ≡ middle b s
middle-is b s l h =
    let p = 2 ^ s in
    let q = b / 2 ^ (s + 3) in
    let in_segment : (16 * s + q % 16) / 16 ≡ s = omega arith in
    let interval : (16 * s + q % 16) % 16 ≡ q % 16 = omega arith in
    let odd : 33 + 2 * (q % 16) ≡ 2 * q + 1 = omega (arith, highest b s l h) in
    let whole : q * 2 ^ (s + 3) ≡ q * p * 8 = ap (λ (n : ℕ). q * n) (powers s).1 ∙ sym (mul_assoc q p 8) in
    rw (in_segment, interval, odd, add-mul (2 * q) 1 p, mul_assoc 2 q p) (omega (arith, powers s))

-- ---- a magnitude v

-- 32,635, the largest, is in the last interval
largest : (s : ℕ) → count_leading_zeros 32 32767 + s ≡ 24 → 16 * s + 32767 / 2 ^ (s + 3) % 16 ≡ 127
unfolding count_leading_zeros
largest s z = let e : s ≡ 7 = omega arith in rw e

interval-of : (v : ℕ) → v ≤ 32635 → (g : Segment (v + 132)) → last_interval 127 v ≡ 16 * g.s + (v + 132) / 2 ^ (g.s + 3) % 16
unfolding decision_value
interval-of v h g = by_order v 32635 (λ l. coded v (v + 132) l refl g) (λ l. last (omega arith) g.s g.zeros)
  where
    last : v ≡ 32635 → (s : ℕ) → count_leading_zeros 32 (v + 132) + s ≡ 24 → last_interval 127 v ≡ 16 * s + (v + 132) / 2 ^ (s + 3) % 16
    last e s z = rw e (enclosed-last 32635 (omega arith) ∙ sym (largest s (rw e at z)))

pub record Rounded (v s : ℕ) : Type 0 where
  pub most : s ≤ 7
  pub low : 2 ^ (s + 7) ≤ v + 132
  pub high : v + 132 < 2 ^ (s + 8)
  pub interval : (last_interval 127 v ≤ 127) × (last_interval 127 v / 16 ≡ s)
  pub value : back v + 132 ≡ middle (v + 132) s

rounded-by : (v : ℕ) → v ≤ 32635 → (g : Segment (v + 132)) → Rounded v g.s
rounded-by v h g =
    let m = interval-of v h g in
    let few : last_interval 127 v < 128 = omega (arith, g.small) in
    record {
      most = omega (arith, g.small);
      low = g.low;
      high = g.high;
      interval = (omega arith, omega arith);
      value = with-bias _ few ∙ ap (λ (n : ℕ). 4 * biased n) m ∙ middle-is (v + 132) g.s g.low g.high;
    }

pub rounded : (v : ℕ) → v ≤ 32635 → Rounded v (highest_bit (v + 132) - 7)
rounded v h =
    let g = segment (v + 132) (omega arith) (omega arith) in
    let e : highest_bit (v + 132) - 7 ≡ g.s = omega (arith, g.zeros) in
    rw e (rounded-by v h g)
