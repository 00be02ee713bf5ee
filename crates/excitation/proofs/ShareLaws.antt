-- Which marks the units take, and that the sizes taken depend on these marks alone.
use mathlib.Core.Path.{◌≡◌, refl, sym, ap, ◌∙◌}
use mathlib.Core.Bool.{Bool, true, false}
use mathlib.Core.List.{List, [], ◌∷◌, ◌++◌}
use Prim.Native.Nat.{ℕ, zero, suc, ◌-◌, ◌≤◌, ◌<◌, max}
use native.Mathlib.Omega.{arith}
use borrow.Author.Tests.{leb-true, leb-false, le-leb, lt-leb, lt-ltb, le-ltb}
use lib.Dec.{leb, ltb}
use lib.IntN.{pos}
use lib.Ieee.{Float, fin}
use lib.ListN.{length, take, drop, length-take, length-append}
use lib.Seq.{length-take-le}
use Rattle.base.specs.Buffers.{flat}
use Rattle.base.proofs.CaseLaws.{by_order}
use Rattle.voice.specs.Voice.{Voice}
use Rattle.units.specs.declared.Unit.{Unit}
use Rattle.units.specs.Units.{greatest_end}
use Rattle.marks.specs.NaturalMarks.{period_count}
use Rattle.marks.specs.Checking.{last_of, up_to}
use Rattle.marks.specs.Rising.{Rising}
use Rattle.marks.proofs.UpToLaws.{up_to-by, up_to-max}
use Rattle.excitation.specs.Nearest.{pace_of, place_after_size}
use Rattle.excitation.specs.Shares.{up_to_end, own_periods, share_count, Share, share_of, shares_from, shares, marks_taken, sizes_from}
use Rattle.excitation.specs.Taken.{Period, period_of, periods_of_marks, periods_of_share, taken, sizes_of}

-- ---- the marks up to a place

-- a mark and the front of those after it, by whether it is not above the place
abbrev pub front_mark : Bool → ℕ → List ℕ → List ℕ
front_mark t m ms = elim t [ false ↦ [] | true ↦ m ∷ ms ]

module _ (end : ℕ) where
  pub take-up_to : (ms : List ℕ) → take (length (up_to end ms)) ms ≡ up_to end ms
  unfolding up_to
  take-up_to [] = refl
  take-up_to (m ∷ ms) = by (leb m end) (take-up_to ms)
    where
      by : (t : Bool) → take (length (up_to end ms)) ms ≡ up_to end ms → take (length (front_mark t m (up_to end ms))) (m ∷ ms) ≡ front_mark t m (up_to end ms)
      by true e = ap (λ (l : List ℕ). m ∷ l) e
      by false e = refl

  -- the mark after them, if there is one, is above it, and above every lower place
  pub up_to-stops : (low : ℕ) → low ≤ end → (ms : List ℕ) → up_to low (drop (length (up_to end ms)) ms) ≡ []
  unfolding up_to
  up_to-stops low h [] = refl
  up_to-stops low h (m ∷ ms) = by (leb m end) refl (up_to-stops low h ms)
    where
      by : (t : Bool) → leb m end ≡ t → up_to low (drop (length (up_to end ms)) ms) ≡ [] → up_to low (drop (length (front_mark t m (up_to end ms))) (m ∷ ms)) ≡ []
      by true e k = k
      by false e k = let l = leb-false m end e in up_to-by low m ms false (lt-leb m low (omega arith))

  -- and then those up to another place
  up_to-both : (other : ℕ) (ms : List ℕ) → up_to end ms ++ up_to other (drop (length (up_to end ms)) ms) ≡ up_to (max end other) ms
  unfolding up_to
  up_to-both other [] = refl
  up_to-both other (m ∷ ms) = by (leb m end) refl (up_to-both other ms)
    where
      by : (t : Bool) → leb m end ≡ t → up_to end ms ++ up_to other (drop (length (up_to end ms)) ms) ≡ up_to (max end other) ms
          → front_mark t m (up_to end ms) ++ up_to other (drop (length (front_mark t m (up_to end ms))) (m ∷ ms)) ≡ up_to (max end other) (m ∷ ms)
      by true e k =
          let l = leb-true m end e in
          ap (λ (l : List ℕ). m ∷ l) k ∙ sym (up_to-by (max end other) m ms true (le-leb m (max end other) (omega arith)))
      by false e k = sym (up_to-max end other m ms (leb-false m end e))

-- ---- some marks that do not fall: the first n, and the others

pub front-rises : (n mark : ℕ) (ms : List ℕ) → Rising mark ms → Rising mark (take n ms)
front-rises zero mark ms r = tt
front-rises (suc n) mark [] r = tt
front-rises (suc n) mark (m ∷ ms) r = (r.0, front-rises n m ms r.1)

pub rest-rises : (n mark : ℕ) (ms : List ℕ) → Rising mark ms → Rising (last_of mark (take n ms)) (drop n ms)
unfolding last_of
rest-rises zero mark ms r = r
rest-rises (suc n) mark [] r = tt
rest-rises (suc n) mark (m ∷ ms) r = rest-rises n m ms r.1

-- ---- the share of one unit: the marks up to its target end

module _ (u : Unit) where
  abbrev end : ℕ
  end = u.target_end

  pub end_none : up_to_end u [] ≡ 0
  unfolding up_to_end up_to
  end_none = refl

  pub end-above : (m : ℕ) (ms : List ℕ) → end < m → up_to_end u (m ∷ ms) ≡ 0
  unfolding up_to_end
  end-above m ms h = ap length (up_to-by end m ms false (lt-leb m end h))

  pub end-takes : (m : ℕ) (ms : List ℕ) → m ≤ end → up_to_end u (m ∷ ms) ≡ suc (up_to_end u ms)
  unfolding up_to_end
  end-takes m ms h = ap length (up_to-by end m ms true (le-leb m end h))

  end-most : (ms : List ℕ) → up_to_end u ms ≤ length ms
  unfolding up_to_end
  end-most ms = let a = ap length (take-up_to end ms) in let b = length-take (length (up_to end ms)) ms in omega arith

-- ---- the same by the join

-- it takes no mark that is not there
pub share-most : (natural : Bool) (u : Unit) (ms : List ℕ) → share_count natural u ms ≤ length ms
unfolding share_count own_periods
share-most true u ms = omega arith
share-most false u ms = end-most u ms

periods-many : (v : Voice) (u : Unit) (pace place : Float) (mark : ℕ) (ms : List ℕ) → length (periods_of_marks v u pace place mark ms) ≡ length ms
unfolding periods_of_marks
periods-many v u pace place mark [] = refl
periods-many v u pace place mark (m ∷ ms) = ap suc (periods-many v u pace (place_after_size place pace (m - mark)) m ms)

-- a period for each mark
pub share-count : (natural : Bool) (v : Voice) (end_before mark : ℕ) (u : Unit) (ms : List ℕ) → length (periods_of_share v (share_of natural end_before mark u ms)) ≡ share_count natural u ms
unfolding periods_of_share
share-count natural v end_before mark u ms = periods-many v u _ _ mark (take (share_count natural u ms) ms) ∙ length-take-le (share_count natural u ms) ms (share-most natural u ms)

-- of n marks a unit takes a, and of these and more b: it stopped before a mark, or ran out of them
pub data Goes (n a b : ℕ) : Type 0 where
  stopped : a ≤ n → b ≡ a → Goes n a b
  ran_out : n ≤ a → n ≤ b → Goes n a b

up_to-goes : (end : ℕ) (ms ns : List ℕ) → Goes (length ms) (length (up_to end ms)) (length (up_to end (ms ++ ns)))
unfolding up_to
up_to-goes end [] ns = ran_out (omega arith) (omega arith)
up_to-goes end (m ∷ ms) ns = by (leb m end) (up_to-goes end ms ns)
  where
    by : (t : Bool) → Goes (length ms) (length (up_to end ms)) (length (up_to end (ms ++ ns)))
        → Goes (length (m ∷ ms)) (length (front_mark t m (up_to end ms))) (length (front_mark t m (up_to end (ms ++ ns))))
    by true (stopped a b) = stopped (omega arith) (ap suc b)
    by true (ran_out a b) = ran_out (omega arith) (omega arith)
    by false g = stopped (omega arith) refl

pub share-goes : (natural : Bool) (u : Unit) (ms ns : List ℕ) → Goes (length ms) (share_count natural u ms) (share_count natural u (ms ++ ns))
unfolding share_count own_periods up_to_end
share-goes true u ms ns =
    let l = length-append ms ns in
    by_order (length ms) (period_count u) (λ h. ran_out (omega arith) (omega arith)) (λ h. stopped (omega arith) (omega arith))
share-goes false u ms ns = up_to-goes u.target_end ms ns

-- ---- the marks that the units take are those up to their greatest target end

abbrev Takes : ℕ → ℕ → List Unit → List ℕ → Type 0
Takes end_before mark us ms = marks_taken (shares_from false end_before mark us ms) ≡ up_to (greatest_end us) ms

unit-marks : (end_before mark : ℕ) (u : Unit) (us : List Unit) (ms : List ℕ)
    → ((mark₁ : ℕ) (left : List ℕ) → up_to 0 left ≡ [] → Takes u.target_end mark₁ us left) → Takes end_before mark (u ∷ us) ms
unfolding marks_taken shares_from flat greatest_end share_count up_to_end
unit-marks end_before mark u us ms others =
    let own = up_to u.target_end ms in
    let left = drop (length own) ms in
    ap (λ (l : List ℕ). l ++ marks_taken (shares_from false u.target_end (last_of mark l) us left)) (take-up_to u.target_end ms)
    ∙ ap (λ (l : List ℕ). own ++ l) (others (last_of mark own) left (up_to-stops u.target_end 0 (omega arith) ms))
    ∙ up_to-both u.target_end (greatest_end us) ms

-- no unit takes no mark, not even one at 0
others-marks : (end_before mark : ℕ) (us : List Unit) (ms : List ℕ) → up_to 0 ms ≡ [] → Takes end_before mark us ms
unfolding marks_taken shares_from flat greatest_end
others-marks end_before mark [] ms h = sym h
others-marks end_before mark (u ∷ us) ms h = unit-marks end_before mark u us ms (λ mark₁ left e. others-marks u.target_end mark₁ us left e)

from-marks : (end_before mark : ℕ) (us : List Unit) (ms : List ℕ) → 0 < length us → Takes end_before mark us ms
from-marks end_before mark [] ms h = absurd (omega arith)
from-marks end_before mark (u ∷ us) ms h = unit-marks end_before mark u us ms (λ mark₁ left e. others-marks u.target_end mark₁ us left e)

-- ---- the same with the test for two marks

abbrev pub two_marks : Bool → List Share → List Share
two_marks t ss = elim t [ true ↦ [] | false ↦ ss ]

module _ (natural : Bool) (us : List Unit) (ms : List ℕ) where
  pub few-shares : length ms < 2 → shares natural us ms ≡ []
  unfolding shares
  few-shares h = ap (λ (t : Bool). two_marks t (shares_from natural 0 0 us ms)) (lt-ltb (length ms) 2 h)

  pub two-shares : 2 ≤ length ms → shares natural us ms ≡ shares_from natural 0 0 us ms
  unfolding shares
  two-shares h = ap (λ (t : Bool). two_marks t (shares_from natural 0 0 us ms)) (le-ltb (length ms) 2 h)

  -- 'Fewer than two marks give zero periods'
  pub taken_none : (v : Voice) → length ms < 2 → taken natural v us ms ≡ []
  unfolding taken flat
  taken_none v h = ap (flat (periods_of_share v)) (few-shares h)

  pub taken-from : (v : Voice) → 2 ≤ length ms → taken natural v us ms ≡ flat (periods_of_share v) (shares_from natural 0 0 us ms)
  unfolding taken
  taken-from v h = ap (flat (periods_of_share v)) (two-shares h)

-- the marks that all units take: those up to the greatest target end
abbrev pub TakesFront : Bool → List Unit → List ℕ → Type 0
TakesFront natural us ms = marks_taken (shares natural us ms) ≡ up_to (greatest_end us) ms

pub marks-taken : (us : List Unit) (ms : List ℕ) → 2 ≤ length ms → 0 < length us → TakesFront false us ms
marks-taken us ms h some = ap marks_taken (two-shares false us ms h) ∙ from-marks 0 0 us ms some

-- ---- sizes depend on the marks taken alone

pub periods-sizes : (v : Voice) (u : Unit) (pace place : Float) (mark : ℕ) (ms : List ℕ) → sizes_of (periods_of_marks v u pace place mark ms) ≡ sizes_from mark ms
unfolding sizes_of periods_of_marks sizes_from period_of
periods-sizes v u pace place mark [] = refl
periods-sizes v u pace place mark (m ∷ ms) = ap (λ (l : List ℕ). (m - mark) ∷ l) (periods-sizes v u pace (place_after_size place pace (m - mark)) m ms)

share-sizes : (v : Voice) (u : Unit) (pace place : Float) (mark : ℕ) (ms ns : List ℕ) (rest : List Period) → sizes_of rest ≡ sizes_from (last_of mark ms) ns
    → sizes_of (periods_of_marks v u pace place mark ms ++ rest) ≡ sizes_from mark (ms ++ ns)
unfolding sizes_of periods_of_marks sizes_from last_of period_of
share-sizes v u pace place mark [] ns rest e = e
share-sizes v u pace place mark (m ∷ ms) ns rest e = ap (λ (l : List ℕ). (m - mark) ∷ l) (share-sizes v u pace (place_after_size place pace (m - mark)) m ms ns rest e)

from-sizes : (natural : Bool) (v : Voice) (end_before mark : ℕ) (us : List Unit) (ms : List ℕ)
    → sizes_of (flat (periods_of_share v) (shares_from natural end_before mark us ms)) ≡ sizes_from mark (marks_taken (shares_from natural end_before mark us ms))
unfolding flat shares_from periods_of_share marks_taken sizes_from sizes_of
from-sizes natural v end_before mark [] ms = refl
from-sizes natural v end_before mark (u ∷ us) ms =
    let n = share_count natural u ms in
    share-sizes v u (pace_of v u end_before) (fin false 0 (pos 0)) mark (take n ms) _ _ (from-sizes natural v u.target_end (last_of mark (take n ms)) us (drop n ms))

pub sizes-by-marks : (natural : Bool) (v : Voice) (us : List Unit) (ms : List ℕ) → sizes_of (taken natural v us ms) ≡ sizes_from 0 (marks_taken (shares natural us ms))
unfolding taken shares flat marks_taken sizes_from sizes_of
sizes-by-marks natural v us ms = by (ltb (length ms) 2)
  where
    by : (t : Bool) → sizes_of (flat (periods_of_share v) (two_marks t (shares_from natural 0 0 us ms))) ≡ sizes_from 0 (marks_taken (two_marks t (shares_from natural 0 0 us ms)))
    by true = refl
    by false = from-sizes natural v 0 0 us ms
