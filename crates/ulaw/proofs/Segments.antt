-- The segment of a biased magnitude, from its count of leading zeros.
use mathlib.Core.Path.{◌≡◌, sym, ap, ◌∙◌}
use Prim.Native.Nat.{ℕ, suc, ◌+◌, ◌-◌, ◌*◌, ◌/◌, ◌%◌, ◌^◌, ◌<◌, ◌≤◌}
use native.Mathlib.Nat.{mul_assoc, add-mul, div-mul-le_self, lt-div-mul-add, le-div_iff_mul-le, div-lt_iff_lt-mul}
use native.Mathlib.Omega.{arith}
use lib.Count.{count_leading_zeros, leading_top}
use lib.Pow.{pow-add, pow_pos, pow_mono}
use Rattle.base.proofs.CaseLaws.{by_order}
use Rattle.ulaw.specs.Ulaw.{last_interval}
use Rattle.ulaw.proofs.Intervals.{decision-at, decision-next, enclosed}

pub record Segment (b : ℕ) : Type 0 where
  pub s : ℕ
  pub small : s < 8
  pub zeros : count_leading_zeros 32 b + s ≡ 24
  pub low : 2 ^ (s + 7) ≤ b
  pub high : b < 2 ^ (s + 8)

-- a power of 2 that b reaches, or does not, bounds the position of its highest set bit
at_least : (b j n : ℕ) → 2 ^ n ≤ b → b < 2 ^ suc j → n ≤ j
at_least b j n l h = by_order j n (λ m. let p : 2 ^ suc j ≤ 2 ^ n = pow_mono m in absurd (omega arith)) (λ m. m)

pub segment : (b : ℕ) → 132 ≤ b → b < 2 ^ 15 → Segment b
segment b lo hi =
    let t = leading_top 32 b (omega arith) (omega arith) in
    let j = t.0 in
    let low : 7 ≤ j = at_least b j 7 (omega arith) t.3 in
    let high : j < 15 = by_order j 15 (λ m. m) (λ m. let p : 2 ^ 15 ≤ 2 ^ j = pow_mono m in absurd (omega (arith, t.2))) in
    let e : j - 7 + 7 ≡ j = omega arith in
    let e8 : j - 7 + 8 ≡ suc j = omega arith in
    record { s = j - 7; small = omega arith; zeros = omega (arith, t.1); low = rw e t.2; high = rw e8 t.3 }

-- in segment s, interval i is where the four bits below the highest are i
placed : (b s : ℕ) → 2 ^ (s + 7) ≤ b → b < 2 ^ (s + 8)
    → ((32 + 2 * (b / 2 ^ (s + 3) % 16)) * 2 ^ s * 4 ≤ b) × (b < (34 + 2 * (b / 2 ^ (s + 3) % 16)) * 2 ^ s * 4)
placed b s l h =
    let p = 2 ^ s in
    let q = b / 2 ^ (s + 3) in
    let e3 : 2 ^ (s + 3) ≡ p * 8 = pow-add 2 s 3 in
    let e7 : 2 ^ (s + 7) ≡ p * 128 = pow-add 2 s 7 in
    let e8 : 2 ^ (s + 8) ≡ p * 256 = pow-add 2 s 8 in
    let least : 16 ≤ q = (le-div_iff_mul-le (pow_pos (s + 3))).1 (omega arith) in
    let most : q < 32 = (div-lt_iff_lt-mul (pow_pos (s + 3))).1 (omega arith) in
    let under : q * 2 ^ (s + 3) ≤ b = div-mul-le_self b (2 ^ (s + 3)) in
    let over : b < q * 2 ^ (s + 3) + 2 ^ (s + 3) = lt-div-mul-add (pow_pos (s + 3)) in
    let whole : q * 2 ^ (s + 3) ≡ q * p * 8 = ap (λ (n : ℕ). q * n) e3 ∙ sym (mul_assoc q p 8) in
    let d : 32 + 2 * (q % 16) ≡ 2 * q = omega arith in
    let d2 : 34 + 2 * (q % 16) ≡ 2 * q + 2 = omega arith in
    (rw (d, mul_assoc 2 q p) (omega arith), rw (d2, add-mul (2 * q) 2 p, mul_assoc 2 q p) (omega arith))

pub coded : (v b : ℕ) → v < 32635 → b ≡ v + 132 → (g : Segment b) → last_interval 127 v ≡ 16 * g.s + b / 2 ^ (g.s + 3) % 16
coded v b h e g =
    let s = g.s in
    let i = b / 2 ^ (s + 3) % 16 in
    let p = placed b s g.low g.high in
    let small : i < 16 = omega arith in
    let lo = decision-at s i small in
    let hi = decision-next s i g.small small in
    enclosed (16 * s + i) v (omega (arith, g.small)) (omega arith) (omega arith)
