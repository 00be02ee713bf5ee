-- A14: where the bounds are reached.
use mathlib.Core.Path.{◌≡◌, refl, sym, ap, ◌∙◌}
use mathlib.Core.Bool.{Bool}
use Prim.Native.Nat.{ℕ, zero, suc, ◌+◌, ◌-◌, ◌*◌, ◌/◌, ◌^◌, ◌<◌, ◌≤◌}
use native.Mathlib.Omega.{arith}
use lib.Dec.{ltb, ltb→lt, eqb, eqb→eq}
use lib.IntN.{ℤ, pos, negsuc, neg_ℤ, nat_abs, neg_ℤ-neg_ℤ}
use Rattle.base.proofs.TableLaws.{below}
use Rattle.ulaw.specs.Ulaw.{decision_value, quantised_value, last_interval}
use Rattle.ulaw.proofs.Intervals.{enclosed, biased-range}
use Rattle.accuracy.specs.Claims.{Coded, distance, segment_of, most_off, most_apart, lowest, Reached}
use Rattle.accuracy.proofs.Rounding.{back, with-bias, rounded}
use Rattle.accuracy.proofs.Samples.{returned, result-of}
use Rattle.accuracy.proofs.Distances.{gap, above_zero}
use Rattle.accuracy.proofs.Accuracy.{back-zero}

-- ---- the table, computed at its rows: the decision values rise,

rises_at : ℕ → Bool
rises_at m = ltb (decision_value m) (decision_value (suc m))

rises : (m : ℕ) → m < 128 → decision_value m < decision_value (suc m)
unfolding decision_value rises_at
rises m h = ltb→lt _ _ (below rises_at 128 tt m h)

-- a quantised value is 2 to the power of the segment above its decision value, but for the first,
above_at : ℕ → Bool
above_at m = eqb (quantised_value (suc m)) (decision_value (suc m) + 2 ^ (suc m / 16))

above : (m : ℕ) → m < 127 → quantised_value (suc m) ≡ decision_value (suc m) + 2 ^ (suc m / 16)
unfolding decision_value quantised_value above_at
above m h = eqb→eq _ _ (below above_at 127 tt m h)

-- and in segment 7 each is 256 above the one before it
steps_at : ℕ → Bool
steps_at i = eqb (quantised_value (suc (112 + i))) (quantised_value (112 + i) + 256)

steps : (i : ℕ) → i < 15 → quantised_value (suc (112 + i)) ≡ quantised_value (112 + i) + 256
unfolding quantised_value steps_at
steps i h = eqb→eq _ _ (below steps_at 15 tt i h)

-- ---- the lowest magnitude of an interval, and the one below it

interval : (m : ℕ) → m < 128 → last_interval 127 (4 * decision_value m) ≡ m
interval m h = enclosed m _ h (omega arith) (omega (arith, rises m h))

at-lowest : (m : ℕ) → m < 128 → back (4 * decision_value m) ≡ 4 * quantised_value m
at-lowest m h = ap (λ (j : ℕ). 4 * quantised_value j) (interval m h)

below-lowest : (m n : ℕ) → m < 127 → suc n ≡ 4 * decision_value (suc m) → back n ≡ 4 * quantised_value m
below-lowest m n h e =
    ap (λ (j : ℕ). 4 * quantised_value j) (enclosed m n (omega arith) (omega (arith, rises m (omega arith))) (omega arith))

off : (m : ℕ) (c : Coded (lowest m)) → 0 < m → m ≤ 127
    → (segment_of (lowest m) ≡ m / 16) × (distance (lowest m) c.result ≡ most_off (lowest m))
off zero c h l = absurd (omega arith)
off (suc k) c h l =
    let m = suc k in
    let v = 4 * decision_value m in
    let a = above k (omega arith) in
    let few : v ≤ 32635 = omega (arith, with-bias m (omega arith), (biased-range m (omega arith)).1) in
    let s : segment_of (lowest m) ≡ m / 16 = sym (rounded v few).interval.1 ∙ ap (λ (j : ℕ). j / 16) (interval m (omega arith)) in
    (s, rw (result-of (lowest m) c, above_zero v (back v), s) (omega (arith, at-lowest m (omega arith))))

in-segment-7 : (i n : ℕ) → i < 15 → suc n ≡ 4 * decision_value (suc (112 + i))
    → gap (back n) (back (4 * decision_value (suc (112 + i)))) ≡ most_apart
in-segment-7 i n h e =
    let m = 112 + i in
    omega (arith, below-lowest m n (omega arith) e, at-lowest (suc m) (omega arith), steps i h)

by_one : (m n : ℕ) (c : Coded (pos n)) (c₁ : Coded (lowest m)) → 112 < m → m ≤ 127 → pos (suc n) ≡ lowest m
    → distance c.result c₁.result ≡ most_apart
by_one m n c c₁ h l e =
    let i = m - 113 in
    let f : m ≡ suc (112 + i) = omega arith in
    let g = ap nat_abs e ∙ ap (λ (j : ℕ). 4 * decision_value j) f in
    rw (result-of (pos n) c, result-of (lowest m) c₁, above_zero (back n) (back (4 * decision_value m)), f) (in-segment-7 i n (omega arith) g)

negative : (x : ℤ) (c : Coded x) (c₁ : Coded (neg_ℤ x)) → c₁.result ≡ neg_ℤ c.result
negative x c c₁ = result-of (neg_ℤ x) c₁ ∙ mirrored x ∙ ap neg_ℤ (sym (result-of x c))
  where
    mirrored : (y : ℤ) → returned (neg_ℤ y) ≡ neg_ℤ (returned y)
    mirrored (pos zero) = rw back-zero
    mirrored (pos (suc n)) = refl
    mirrored (negsuc n) = sym (neg_ℤ-neg_ℤ (pos (back (suc n))))

pub reached : Reached
reached = record { off = off; by_one = by_one; negative = negative }
