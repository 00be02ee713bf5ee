-- How far a magnitude is from the one that comes back, and how far these are apart.
use mathlib.Core.Path.{◌≡◌, subst}
use Prim.Native.Nat.{ℕ, suc, ◌+◌, ◌-◌, ◌*◌, ◌/◌, ◌^◌, ◌<◌, ◌≤◌}
use native.Mathlib.Nat.{mul-le-mul_right, div-mul-le_self, lt-div-mul-add}
use native.Mathlib.Omega.{arith}
use lib.Pow.{pow_pos, pow_mono, shr_mono}
use Rattle.base.proofs.CaseLaws.{by_order}
use Rattle.ulaw.specs.Ulaw.{decision_value, quantised_value, last_interval}
use Rattle.ulaw.proofs.Intervals.{enclosed-last, biased-range}
use Rattle.accuracy.specs.Claims.{highest_bit, most_apart}
use Rattle.accuracy.proofs.Rounding.{back, with-bias, powers, highest, Rounded, rounded}

-- outwards at most 4 times 2 to the power of the segment, inwards less
pub off-by : (v s : ℕ) → Rounded v s → (back v ≤ v + 4 * 2 ^ s) × (v < back v + 4 * 2 ^ s)
off-by v s r =
    let e = powers s in
    let value = r.value in
    let under = div-mul-le_self (v + 132) (2 ^ (s + 3)) in
    let over : v + 132 < (v + 132) / 2 ^ (s + 3) * 2 ^ (s + 3) + 2 ^ (s + 3) = lt-div-mul-add (pow_pos (s + 3)) in
    (omega arith, omega arith)

-- .. and so in every segment at most 512, inwards less
close : (v : ℕ) → v ≤ 32635 → (back v ≤ v + 512) × (v < back v + 512)
close v h =
    let s = highest_bit (v + 132) - 7 in
    let r = rounded v h in
    let o = off-by v s r in
    let p : 2 ^ s ≤ 2 ^ 7 = pow_mono r.most in
    (omega (arith, o.0), omega (arith, o.1))

pub beyond : (v : ℕ) → 32635 ≤ v → back v ≡ 32124
unfolding decision_value quantised_value
beyond v h = rw (enclosed-last v (omega arith))

-- one apart
pub neighbours : (v : ℕ) → back (suc v) ≤ back v + most_apart
neighbours v =
    by_order v 32635 (λ l. omega (arith, (close v (omega arith)).1, (close (suc v) l).0))
    (λ l. omega (arith, beyond v l, beyond (suc v) (omega arith)))

-- ---- a larger magnitude never comes back smaller

-- in one segment its five highest bits are no smaller
in-segment : (v w s : ℕ) → Rounded v s → Rounded w s → v ≤ w → back v ≤ back w
in-segment v w s r t h =
    let q : (v + 132) / 2 ^ (s + 3) ≤ (w + 132) / 2 ^ (s + 3) = shr_mono (s + 3) (omega arith) in
    omega (arith, r.value, t.value, mul-le-mul_right (2 ^ (s + 3)) q)

-- what comes back is in the same segment
within : (v s : ℕ) → Rounded v s → (2 ^ (s + 7) ≤ back v + 132) × (back v + 132 < 2 ^ (s + 8))
within v s r =
    let e = powers s in
    let value = r.value in
    let some = pow_pos s in
    let q = highest (v + 132) s r.low r.high in
    (omega (arith, mul-le-mul_right (2 ^ (s + 3)) q.0), omega (arith, mul-le-mul_right (2 ^ (s + 3)) q.1))

by-segments : (v w s t : ℕ) → Rounded v s → Rounded w t → v ≤ w → back v ≤ back w
by-segments v w s t r q h = by_order s t lower (λ l. by_order t s (λ m. absurd (higher m)) (λ m. same (omega arith)))
  where
    lower : s < t → back v ≤ back w
    lower l = let p : 2 ^ (s + 8) ≤ 2 ^ (t + 7) = pow_mono (omega arith) in omega (arith, (within v s r).1, (within w t q).0)

    same : t ≡ s → back v ≤ back w
    same e = in-segment v w s r (subst (Rounded w) e q) h

    higher : t < s → ⊥
    higher l = let p : 2 ^ (t + 8) ≤ 2 ^ (s + 7) = pow_mono (omega arith) in omega (arith, r.low, q.high)

pub interval-most : (v : ℕ) → last_interval 127 v ≤ 127
unfolding decision_value
interval-most v = by_order v 32635 (λ l. (rounded v (omega arith)).interval.0) (λ l. rw (enclosed-last v (omega arith)) (omega arith))

at_most : (v : ℕ) → back v ≤ 32124
at_most v =
    let h : last_interval 127 v < 128 = omega (arith, interval-most v) in
    omega (arith, with-bias _ h, (biased-range _ h).1)

pub rising : (v w : ℕ) → v ≤ w → back v ≤ back w
rising v w h =
    by_order w 32635 (λ l. by-segments v w _ _ (rounded v (omega arith)) (rounded w (omega arith)) h)
    (λ l. omega (arith, at_most v, beyond w l))
