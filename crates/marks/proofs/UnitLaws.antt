-- The marks of one unit of the simple join, period by period.
use Rattle.std.specs.Prelude.{Err, Ok, Some}
use Rattle.std.proofs.Common.{◌≡◌, ℕ, zero, suc, ◌+◌, ◌-◌, ◌<◌, ◌≤◌, List, [], ◌∷◌, length, refl, ap, ◌∙◌, add-one, arith, le-leb}
use borrow.Author.Tests.{lt-leb}
use Rattle.refusal.specs.declared.Refusal.TheVariants.{PastLimit, TooManyMarks}
use Rattle.voice.specs.Voice.{Voice}
use Rattle.voice.specs.Periods.{samples_of, samples_from}
use Rattle.units.specs.Units.{limit}
use Rattle.marks.specs.NaturalMarks.{marks_of_periods, mark_refusal}
use Rattle.marks.specs.Checking.{unit_answered, unit_marks}

-- ---- one mark

refusal-past : (left m : ℕ) (ms : List ℕ) → 0 < left → limit < m → mark_refusal left (m ∷ ms) ≡ Some PastLimit
unfolding mark_refusal
refusal-past zero m ms l g = absurd (omega arith)
refusal-past (suc k) m ms l g = rw (lt-leb m limit g)

refusal-more : (left m : ℕ) (ms : List ℕ) → 0 < left → m ≤ limit → mark_refusal left (m ∷ ms) ≡ mark_refusal (left - 1) ms
unfolding mark_refusal
refusal-more zero m ms l g = absurd (omega arith)
refusal-more (suc k) m ms l g = let e : suc k - 1 ≡ k = omega arith in rw (le-leb m limit g, e)

-- ---- one period

module _ (v : Voice) (place p : ℕ) where
  -- where the period ends
  abbrev end : ℕ
  end = place + samples_of v p

  pub periods-none : (n : ℕ) → n ≡ 0 → marks_of_periods v place p n ≡ []
  unfolding marks_of_periods
  periods-none n e = rw e

  pub samples-none : (n : ℕ) → n ≡ 0 → place + samples_from v p n ≡ place
  unfolding samples_from
  samples-none n e = rw e (omega arith)

  pub periods-more : (n : ℕ) → 0 < n → marks_of_periods v place p n ≡ end ∷ marks_of_periods v end (p + 1) (n - 1)
  unfolding marks_of_periods
  periods-more zero h = absurd (omega arith)
  periods-more (suc n) h = let e : suc n - 1 ≡ n = omega arith in rw (e, add-one)

  pub samples-more : (n : ℕ) → 0 < n → place + samples_from v p n ≡ end + samples_from v (p + 1) (n - 1)
  unfolding samples_from
  samples-more zero h = absurd (omega arith)
  samples-more (suc n) h = let e : suc n - 1 ≡ n = omega arith in rw (e, add-one) (omega arith)

  pub unit-none : (n left : ℕ) → n ≡ 0 → unit_marks v place p n left ≡ Ok (place, left)
  unfolding unit_marks mark_refusal
  unit-none n left e =
      let l : left - n ≡ left = omega arith in
      let m = periods-none n e in
      let s = samples-none n e in
      rw (m, s, l)

  module _ (n left : ℕ) (h : 0 < n) where
    turn : unit_marks v place p n left ≡ unit_answered (mark_refusal left (end ∷ marks_of_periods v end (p + 1) (n - 1))) (end + samples_from v (p + 1) (n - 1)) (left - n)
    unfolding unit_marks
    turn = let m = periods-more n h in let s = samples-more n h in rw (m, s)

    pub unit-full : left ≡ 0 → unit_marks v place p n left ≡ Err TooManyMarks
    unfolding mark_refusal
    unit-full e = turn ∙ rw e

    pub unit-past : 0 < left → limit < end → unit_marks v place p n left ≡ Err PastLimit
    unit-past l g = turn ∙ rw (refusal-past left end (marks_of_periods v end (p + 1) (n - 1)) l g)

    pub unit-more : 0 < left → end ≤ limit → unit_marks v place p n left ≡ unit_marks v end (p + 1) (n - 1) (left - 1)
    unfolding unit_marks
    unit-more l g =
        let d : left - n ≡ left - 1 - (n - 1) = omega arith in
        turn ∙ rw (refusal-more left end (marks_of_periods v end (p + 1) (n - 1)) l g, d)

pub length-periods : (v : Voice) (place p n : ℕ) → length (marks_of_periods v place p n) ≡ n
unfolding marks_of_periods
length-periods v place p zero = refl
length-periods v place p (suc n) = ap suc (length-periods v (place + samples_of v p) (suc p) n)
