-- A call's marks are at most as many as it may have, and 12 comes only after that many.
use Rattle.std.specs.Prelude.{None, Option, Some}
use Rattle.std.proofs.Common.{◌≡◌, ℕ, zero, suc, ◌+◌, ◌<◌, ◌≤◌, Bool, true, false, ◌&&◌, leb, List, [], ◌∷◌, length, pos, refl, ◌∙◌, arith, length-append}
use lib.Ieee.{Float, binary64, lt, ne, of_int}
use Rattle.base.specs.Choice.{pick}
use Rattle.refusal.specs.declared.Refusal.{Refusal}
use Rattle.refusal.specs.declared.Refusal.TheVariants.{PastLimit, BadSlope, TooManyMarks}
use Rattle.sheet.specs.declared.Target.{Target}
use Rattle.sheet.specs.Sheet.{is_finite}
use Rattle.units.specs.Units.{limit}
use Rattle.marks.specs.PitchMarks.{position_counted, f0_counted, Contour, Climb, Stage, Made, most_marks, goes_on, next_time, mark_at, ends, with_mark, climb, slope_of, contour_to, climb_to, stage_after, then_marks, marks_from, first_stage, pitch_marks}
use Rattle.marks.specs.NaturalMarks.{mark_refusal}

-- ---- the marks of targets

-- of n marks that were allowed: those made up to a target and those still allowed are n, and with 12 none is still allowed
record Counted (n : ℕ) (c : Climb) : Type 0 where
  all : length c.marks + c.left ≡ n
  full : c.refusal ≡ Some TooManyMarks → c.left ≡ 0

climb-counted : (c : Contour) (n : ℕ) (time : Float) → Counted n (climb c n time)
unfolding climb
climb-counted c zero time = go (goes_on c time)
  where
    go : (t : Bool) → Counted 0 (elim t [ false ↦ ends None time 0 | true ↦ ends (Some TooManyMarks) time 0 ])
    go false = record { all = refl; full = λ e. refl }
    go true = record { all = refl; full = λ e. refl }
climb-counted c (suc n) time = go (goes_on c time) (leb (mark_at c (next_time c time)) limit) (climb-counted c n (next_time c time))
  where
    go : (t u : Bool) → Counted n (climb c n (next_time c time))
        → Counted (suc n)
        (elim t [
          | false ↦ ends None time (suc n)
          | true ↦ elim u [ false ↦ ends (Some PastLimit) time (suc n) | true ↦ with_mark (mark_at c (next_time c time)) (climb c n (next_time c time)) ]
        ])
    go false u h = record { all = omega arith; full = λ e. absurd (let z : ◌≡◌ {A = ℕ} 0 1 = cc in omega arith) }
    go true false h = record { all = omega arith; full = λ e. absurd (let z : ◌≡◌ {A = ℕ} 0 1 = cc in omega arith) }
    go true true h = let l = h.all in record { all = omega arith; full = h.full }

climb_to-counted : (rate : Float) (s : Stage) (position f0 : Float) → Counted s.left (climb_to rate s position f0)
unfolding climb_to
climb_to-counted rate s position f0 = go (ne s.time position && lt s.position position) (is_finite (slope_of s position f0))
  where
    go : (t u : Bool) → Counted s.left
        (elim t [
          | false ↦ ends None s.time s.left
          | true ↦ elim u [ false ↦ ends (Some BadSlope) s.time s.left | true ↦ climb (contour_to rate s position f0) s.left s.time ]
        ])
    go false u = record { all = omega arith; full = λ e. absurd (let z : ◌≡◌ {A = ℕ} 0 1 = cc in omega arith) }
    go true false = record { all = omega arith; full = λ e. absurd (let z : ◌≡◌ {A = ℕ} 0 1 = cc in omega arith) }
    go true true = climb-counted (contour_to rate s position f0) s.left s.time

-- so of all targets: at most n, and n with 12
record Bounded (n : ℕ) (m : Made) : Type 0 where
  most : length m.marks ≤ n
  full : m.refusal ≡ Some TooManyMarks → length m.marks ≡ n

-- those of one target and of the others, with a refusal or without
then-bounded : (n : ℕ) (c : Climb) (rest : Made) (r : Option Refusal) → c.refusal ≡ r → Counted n c → Bounded c.left rest → Bounded n (then_marks r c.marks rest)
then-bounded n c rest None q e h =
    let l = e.all in
    let m = h.most in
    record { most = simp (length-append) (omega arith); full = λ f. let k = h.full f in simp (length-append) (omega arith) }
then-bounded n c rest (Some r) q e h =
    let l = e.all in
    record { most = omega arith; full = λ f. let k = e.full (q ∙ f) in omega arith }

marks-bounded : (rate : Float) (s : Stage) (ts : List Target) → Bounded s.left (marks_from rate s ts)
unfolding marks_from
marks-bounded rate s [] = record { most = omega arith; full = λ e. absurd (let z : ◌≡◌ {A = ℕ} 0 1 = cc in omega arith) }
marks-bounded rate s (t ∷ ts) =
    let position = position_counted t in
    let f0 = f0_counted s.f0 t.f0 in
    let c = climb_to rate s position f0 in
    then-bounded s.left c (marks_from rate (stage_after c position f0) ts) c.refusal refl (climb_to-counted rate s position f0) (marks-bounded rate (stage_after c position f0) ts)

-- 'more than 65,536 marks' are never made
pub marks-most : (rate : ℕ) (ts : List Target) → length (pitch_marks rate ts).marks ≤ most_marks
unfolding pitch_marks
marks-most rate ts = (marks-bounded (of_int binary64 (pos rate)) first_stage ts).most

-- and 12 comes only after 65,536 were made
pub marks-full : (rate : ℕ) (ts : List Target) → (pitch_marks rate ts).refusal ≡ Some TooManyMarks → length (pitch_marks rate ts).marks ≡ most_marks
unfolding pitch_marks
marks-full rate ts e = (marks-bounded (of_int binary64 (pos rate)) first_stage ts).full e

-- ---- the marks of a simple join

-- where they are not refused, they are at most as many as are allowed; where with 12, they are more
pub refusal-most : (left : ℕ) (ms : List ℕ) → mark_refusal left ms ≡ None → length ms ≤ left
unfolding mark_refusal
refusal-most left [] e = omega arith
refusal-most zero (m ∷ ms) e = let z : ◌≡◌ {A = ℕ} 0 1 = cc in absurd (omega arith)
refusal-most (suc n) (m ∷ ms) e = go (leb m limit) (refusal-most n ms) e
  where
    go : (t : Bool) → (mark_refusal n ms ≡ None → length ms ≤ n) → pick t (mark_refusal n ms) (Some PastLimit) ≡ None → length (m ∷ ms) ≤ suc n
    go true h e = let l = h e in omega arith
    go false h e = let z : ◌≡◌ {A = ℕ} 0 1 = cc in absurd (omega arith)

pub refusal-full : (left : ℕ) (ms : List ℕ) → mark_refusal left ms ≡ Some TooManyMarks → left < length ms
unfolding mark_refusal
refusal-full left [] e = let z : ◌≡◌ {A = ℕ} 0 1 = cc in absurd (omega arith)
refusal-full zero (m ∷ ms) e = omega arith
refusal-full (suc n) (m ∷ ms) e = go (leb m limit) (refusal-full n ms) e
  where
    go : (t : Bool) → (mark_refusal n ms ≡ Some TooManyMarks → n < length ms) → pick t (mark_refusal n ms) (Some PastLimit) ≡ Some TooManyMarks → suc n < length (m ∷ ms)
    go true h e = let l = h e in omega arith
    go false h e = let z : ◌≡◌ {A = ℕ} 0 1 = cc in absurd (omega arith)
