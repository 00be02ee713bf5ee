-- No mark is above the limit where none was refused.
use Rattle.std.specs.Prelude.{None, Option, Some}
use Rattle.std.proofs.Common.{◌≡◌, ℕ, zero, suc, ◌≤◌, Bool, true, false, ◌&&◌, leb, List, [], ◌∷◌, pos, refl, arith, leb-true}
use lib.Ieee.{Float, binary64, lt, ne, of_int}
use Rattle.base.specs.Choice.{pick}
use Rattle.base.proofs.BoundLaws.{Each, nil, cons, each_append}
use Rattle.refusal.specs.declared.Refusal.{Refusal}
use Rattle.refusal.specs.declared.Refusal.TheVariants.{PastLimit}
use Rattle.sheet.specs.declared.Target.{Target}
use Rattle.sheet.specs.Sheet.{is_finite}
use Rattle.units.specs.Units.{limit}
use Rattle.marks.specs.PitchMarks.{position_counted, f0_counted, Contour, goes_on, next_time, mark_at, Climb, climb, Stage, slope_of, contour_to, climb_to, stage_after, Made, then_marks, marks_from, pitch_marks, first_stage}
use Rattle.marks.specs.NaturalMarks.{mark_refusal}

abbrev pub Low : ℕ → Type 0
Low m = m ≤ limit

-- ---- the simple join

pub refusal-low : (left : ℕ) (ms : List ℕ) → mark_refusal left ms ≡ None → Each Low ms
unfolding mark_refusal
refusal-low left [] e = nil
refusal-low zero (m ∷ ms) e = let z : ◌≡◌ {A = ℕ} 0 1 = cc in absurd (omega arith)
refusal-low (suc n) (m ∷ ms) e = by (leb m limit) refl e (refusal-low n ms)
  where
    by : (t : Bool) → leb m limit ≡ t → pick t (mark_refusal n ms) (Some PastLimit) ≡ None → (mark_refusal n ms ≡ None → Each Low ms) → Each Low (m ∷ ms)
    by true l e ih = cons (leb-true m limit l) (ih e)
    by false l e ih = let z : ◌≡◌ {A = ℕ} 0 1 = cc in absurd (omega arith)

-- ---- the modified join, whatever its refusal is

abbrev either : Bool → Climb → Climb → Climb
either t x y = elim t [ false ↦ x | true ↦ y ]

either-low : (t : Bool) (x y : Climb) → Each Low x.marks → (t ≡ true → Each Low y.marks) → Each Low (either t x y).marks
either-low true x y a b = b refl
either-low false x y a b = a

climb-low : (c : Contour) (n : ℕ) (time : Float) → Each Low (climb c n time).marks
unfolding climb
climb-low c zero time = either-low (goes_on c time) _ _ nil (λ e. nil)
climb-low c (suc n) time =
    let m = mark_at c (next_time c time) in
    either-low (goes_on c time) _ _ nil (λ e. either-low (leb m limit) _ _ nil (λ l. cons (leb-true m limit l) (climb-low c n (next_time c time))))

target-low : (rate : Float) (s : Stage) (position f0 : Float) → Each Low (climb_to rate s position f0).marks
unfolding climb_to
target-low rate s position f0 =
    either-low (ne s.time position && lt s.position position) _ _ nil (λ e.
    either-low (is_finite (slope_of s position f0)) _ _ nil (λ l. climb-low (contour_to rate s position f0) s.left s.time))

then-low : (r : Option Refusal) (ms : List ℕ) (m : Made) → Each Low ms → Each Low m.marks → Each Low (then_marks r ms m).marks
then-low None ms m a b = each_append Low ms m.marks a b
then-low (Some r) ms m a b = a

from_low : (rate : Float) (s : Stage) (ts : List Target) → Each Low (marks_from rate s ts).marks
unfolding marks_from
from_low rate s [] = nil
from_low rate s (t ∷ ts) =
    let position = position_counted t in
    let f0 = f0_counted s.f0 t.f0 in
    let c = climb_to rate s position f0 in
    then-low c.refusal c.marks _ (target-low rate s position f0) (from_low rate (stage_after c position f0) ts)

pub marks-low : (rate : ℕ) (ts : List Target) → Each Low (pitch_marks rate ts).marks
unfolding pitch_marks
marks-low rate ts = from_low (of_int binary64 (pos rate)) first_stage ts
