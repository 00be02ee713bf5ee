-- The interval of a magnitude is the one whose decision values enclose it.
use mathlib.Core.Path.{◌≡◌, sym, ◌∙◌}
use mathlib.Core.Bool.{Bool}
use mathlib.Core.Logic.{⊎_elim}
use Prim.Native.Nat.{ℕ, zero, suc, ◌+◌, ◌-◌, ◌*◌, ◌/◌, ◌%◌, ◌^◌, ◌<◌, ◌≤◌}
use native.Mathlib.Nat.{eq-or-lt_of_le, le_of_suc-le-suc}
use native.Mathlib.Omega.{arith}
use borrow.Author.Tests.{le-leb, lt-leb}
use lib.Dec.{leb, leb→le, eqb, eqb→eq}
use Rattle.base.proofs.TableLaws.{below}
use Rattle.ulaw.specs.Ulaw.{decision_value, last_interval}

-- interval i of segment s, both counted from 0
pub decision-at : (s i : ℕ) → i < 16 → decision_value (16 * s + i) ≡ (32 + 2 * i) * 2 ^ s - 33
unfolding decision_value
decision-at s i h =
    let q : (16 * s + i) / 16 ≡ s = omega arith in
    let r : (16 * s + i) % 16 ≡ i = omega arith in
    rw (q, r)

-- the decision value after it, computed at all of them
next_at : ℕ → Bool
next_at m = eqb (decision_value (suc m)) ((34 + 2 * (m % 16)) * 2 ^ (m / 16) - 33)

pub decision-next : (s i : ℕ) → s < 8 → i < 16 → decision_value (suc (16 * s + i)) ≡ (34 + 2 * i) * 2 ^ s - 33
unfolding decision_value next_at
decision-next s i hs hi =
    let q : (16 * s + i) / 16 ≡ s = omega arith in
    let r : (16 * s + i) % 16 ≡ i = omega arith in
    eqb→eq _ _ (below next_at 128 tt (16 * s + i) (omega arith)) ∙ rw (q, r)

-- the decision values rise
rises_at : ℕ → Bool
rises_at m = leb (decision_value m) (decision_value (suc m))

rises : (m : ℕ) → m < 127 → decision_value m ≤ decision_value (suc m)
unfolding decision_value rises_at
rises m h = leb→le _ _ (below rises_at 127 tt m h)

decision-mono : (m k : ℕ) → m ≤ k → k ≤ 127 → decision_value m ≤ decision_value k
decision-mono m zero h b = let e : m ≡ zero = omega arith in rw e (omega arith)
decision-mono m (suc k) h b = ⊎_elim (λ e. rw e (omega arith)) (λ l. omega (arith, decision-mono m k (le_of_suc-le-suc l) (omega arith), rises k (omega arith))) (eq-or-lt_of_le h)

last-is : (n m v : ℕ) → m ≤ n → 4 * decision_value m ≤ v → ((k : ℕ) → m < k → k ≤ n → v < 4 * decision_value k) → last_interval n v ≡ m
unfolding last_interval
last-is zero m v h lo hi = omega arith
last-is (suc n) m v h lo hi =
    ⊎_elim (λ e. rw (le-leb (4 * decision_value (suc n)) v (rw e at lo)) (sym e))
    (λ l. rw (lt-leb (4 * decision_value (suc n)) v (hi (suc n) l (omega arith))) (last-is n m v (le_of_suc-le-suc l) lo (λ k a b. hi k a (omega arith))))
    (eq-or-lt_of_le h)

pub enclosed : (m v : ℕ) → m < 128 → 4 * decision_value m ≤ v → v < 4 * decision_value (suc m) → last_interval 127 v ≡ m
enclosed m v h lo hi = last-is 127 m v (omega arith) lo (λ k a b. omega (arith, decision-mono (suc m) k a b))

pub enclosed-last : (v : ℕ) → 4 * decision_value 127 ≤ v → last_interval 127 v ≡ 127
enclosed-last v lo = last-is 127 127 v (omega arith) lo (λ k a b. absurd (omega arith))

-- ---- the quantised values, before their bias of 33 is taken off

abbrev pub biased : ℕ → ℕ
biased m = (33 + 2 * (m % 16)) * 2 ^ (m / 16)

least_at : ℕ → Bool
least_at m = leb 33 (biased m)

most_at : ℕ → Bool
most_at m = leb (biased m) 8064

pub biased-range : (m : ℕ) → m < 128 → (33 ≤ biased m) × (biased m ≤ 8064)
unfolding least_at most_at
biased-range m h = (leb→le _ _ (below least_at 128 tt m h), leb→le _ _ (below most_at 128 tt m h))
