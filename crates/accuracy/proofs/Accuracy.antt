-- A14: all of it, over the contracts.
use mathlib.Core.Path.{◌≡◌, refl, sym, ap, ◌∙◌}
use mathlib.Core.Bool.{Bool, true, false}
use Prim.Native.Nat.{ℕ, suc, ◌+◌, ◌-◌, ◌/◌, ◌%◌, ◌<◌, ◌≤◌}
use native.Mathlib.Omega.{arith}
use lib.Dec.{leb→le, le→leb}
use lib.IntN.{ℤ, pos, negsuc, nat_abs}
use lib.Signed.{lt_z, ◌≤ℤ◌}
use Rattle.base.specs.Choice.{pick}
use Rattle.base.proofs.CaseLaws.{by_order}
use Rattle.ulaw.specs.Ulaw.{decision_value, quantised_value, last_interval, ulaw_of, sample_of}
use Rattle.accuracy.specs.Claims.{Coded, distance, with_sign_of, segment_of, IsSegment, most_off, most_apart, Accuracy}
use Rattle.accuracy.proofs.Rounding.{back, rounded}
use Rattle.accuracy.proofs.Magnitudes.{off-by, beyond, neighbours, rising}
use Rattle.accuracy.proofs.Samples.{code_of, returned, result-of}
use Rattle.accuracy.proofs.Distances.{gap, above_zero, below-zero, downwards, upwards, neg-pos, neg-neg}

-- ---- one sample

from-result : (x : ℤ) (n : ℕ) → distance x (with_sign_of x n) ≡ gap (nat_abs x) n
from-result (pos a) n = above_zero a n
from-result (negsuc a) n = below-zero (suc a) n

off : (x : ℤ) (c : Coded x) → nat_abs x ≤ 32635 → distance x c.result ≤ most_off x
off x c h =
    let o = off-by (nat_abs x) (segment_of x) (rounded (nat_abs x) h) in
    rw (result-of x c, from-result x (back (nat_abs x))) (omega (arith, o.0, o.1))

-- the segment's bits in the byte
bits : (t : Bool) (m : ℕ) → m ≤ 127 → (pick t 128 0 + m) / 16 % 8 ≡ m / 16
bits true m h = omega arith
bits false m h = omega arith

segment : (x : ℤ) (c : Coded x) → nat_abs x ≤ 32635 → IsSegment x c.byte
segment x c h =
    let r = rounded (nat_abs x) h in
    record {
      low = r.low;
      high = r.high;
      most = r.most;
      used = ap (λ (n : ℕ). (255 - n) / 16 % 8) c.encoded ∙ rw (code_of x) (bits (lt_z x (pos 0)) _ r.interval.0 ∙ r.interval.1);
    }

larger : (x : ℤ) (c : Coded x) → 32635 < nat_abs x → c.result ≡ with_sign_of x 32124
larger x c h = result-of x c ∙ ap (with_sign_of x) (beyond (nat_abs x) (omega arith))

pub back-zero : back 0 ≡ 0
unfolding decision_value quantised_value last_interval
back-zero = refl

of_zero : (c : Coded (pos 0)) → c.result ≡ pos 0
of_zero c = result-of (pos 0) c ∙ ap pos back-zero

-- ---- two samples

magnitudes-by-one : (a b : ℕ) → gap a b ≡ 1 → gap (back a) (back b) ≤ most_apart
magnitudes-by-one a b h = by_order a b (λ l. up a b (omega arith)) (λ l. let u = up b a (omega arith) in omega arith)
  where
    up : (v w : ℕ) → w ≡ suc v → gap (back v) (back w) ≤ most_apart
    up v w e = rw e (omega (arith, neighbours v, rising v (suc v) (omega arith)))

-- .. on two sides of zero: 0 and 1
across : (a b : ℕ) → a + b ≡ 1 → back a + back b ≤ most_apart
across a b h = by_order a 1 (λ l. sum a b (omega arith) (omega arith)) (λ l. omega (arith, sum b a (omega arith) (omega arith)))
  where
    sum : (v w : ℕ) → v ≡ 0 → w ≡ 1 → back v + back w ≤ most_apart
    sum v w e f = rw (e, f) (omega (arith, neighbours 0, back-zero))

results-by-one : (x x₁ : ℤ) → distance x x₁ ≡ 1 → distance (returned x) (returned x₁) ≤ most_apart
results-by-one (pos a) (pos b) h = rw (above_zero (back a) (back b)) (magnitudes-by-one a b (sym (above_zero a b) ∙ h))
results-by-one (negsuc a) (negsuc b) h =
    rw (below-zero (back (suc a)) (back (suc b))) (magnitudes-by-one (suc a) (suc b) (sym (below-zero (suc a) (suc b)) ∙ h))
results-by-one (pos a) (negsuc b) h = rw (downwards (back a) (back (suc b))) (across a (suc b) (sym (downwards a (suc b)) ∙ h))
results-by-one (negsuc a) (pos b) h = rw (upwards (back (suc a)) (back b)) (across (suc a) b (sym (upwards (suc a) b) ∙ h))

by_one : (x x₁ : ℤ) (c : Coded x) (c₁ : Coded x₁) → distance x x₁ ≡ 1 → distance c.result c₁.result ≤ most_apart
by_one x x₁ c c₁ h = rw (result-of x c, result-of x₁ c₁) (results-by-one x x₁ h)

results-rising : (x x₁ : ℤ) → x ≤ℤ x₁ → returned x ≤ℤ returned x₁
results-rising (pos a) (pos b) h = record { le = le→leb _ _ (rising a b (leb→le a b h.le)) }
results-rising (pos a) (negsuc b) h = absurd h.le
results-rising (negsuc a) (pos b) h = neg-pos (back (suc a)) (back b)
results-rising (negsuc a) (negsuc b) h =
    neg-neg (back (suc a)) (back (suc b)) (rising (suc b) (suc a) (omega (arith, leb→le b a h.le)))

never-smaller : (x x₁ : ℤ) (c : Coded x) (c₁ : Coded x₁) → x ≤ℤ x₁ → c.result ≤ℤ c₁.result
never-smaller x x₁ c c₁ h = rw (result-of x c, result-of x₁ c₁) (results-rising x x₁ h)

made : (x : ℤ) → Coded x
made x = record { byte = ulaw_of x; result = sample_of (ulaw_of x); encoded = refl; decoded = refl }

pub accuracy : Accuracy
accuracy =
    record {
      off = off;
      segment = segment;
      larger = larger;
      by_one = by_one;
      rising = never-smaller;
      of_zero = of_zero;
      made = made;
    }
