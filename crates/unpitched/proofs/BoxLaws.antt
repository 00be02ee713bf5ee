-- The marks are document 01's of the targets with their boxes filled in.
use mathlib.Core.Path.{◌≡◌, refl, sym, ap, ◌∙◌}
use mathlib.Core.Bool.{true}
use mathlib.Core.List.{List, [], ◌∷◌}
use Prim.Native.Nat.{ℕ}
use native.Mathlib.Omega.{arith}
use lib.Ieee.{Float}
use Rattle.base.proofs.ListLaws.{and_left, and_right}
use Rattle.sheet.specs.declared.Value.{Value}
use Rattle.sheet.specs.declared.Value.TheVariants.{Int, Float as FloatValue, Absent}
use Rattle.sheet.specs.declared.Target.{Target}
use Rattle.sheet.specs.Sheet.{as_f32}
use Rattle.marks.specs.PitchMarks.{Stage, first_stage, climb_to, stage_after, then_marks, position_counted, f0_counted, marks_from, pitch_marks}
use Rattle.unpitched.specs.Boxes.{box, filled_from, filled_in, is_written, all_written, old_marks_from, old_pitch_marks}

-- what a box counts once it is filled in is the f0 counted
box-counted : (pitch : Float) (v : Value) → as_f32 (box pitch v) ≡ f0_counted pitch v
unfolding as_f32 box f0_counted
box-counted pitch Absent = refl
box-counted pitch (Int i) = refl
box-counted pitch (FloatValue x) = refl

from-filled : (rate : Float) (s : Stage) (ts : List Target) → marks_from rate s ts ≡ old_marks_from rate s (filled_from s.f0 ts)
unfolding marks_from old_marks_from filled_from
from-filled rate s [] = refl
from-filled rate s (t ∷ ts) =
    let position = position_counted t in
    let f0 = f0_counted s.f0 t.f0 in
    let c = climb_to rate s position f0 in
    rw (box-counted s.f0 t.f0) (ap (then_marks c.refusal c.marks) (from-filled rate (stage_after c position f0) ts))

pub marks-filled : (rate : ℕ) (ts : List Target) → pitch_marks rate ts ≡ old_pitch_marks rate (filled_in ts)
unfolding pitch_marks old_pitch_marks filled_in
marks-filled rate ts = from-filled _ first_stage ts

-- ---- written boxes stay

box-stays : (pitch : Float) (v : Value) → is_written v ≡ true → box pitch v ≡ v
unfolding box
box-stays pitch Absent e = absurd (let z : ◌≡◌ {A = ℕ} 0 1 = cc in omega arith)
box-stays pitch (Int i) e = refl
box-stays pitch (FloatValue x) e = refl

from-written : (pitch : Float) (ts : List Target) → all_written ts ≡ true → filled_from pitch ts ≡ ts
unfolding filled_from all_written
from-written pitch [] e = refl
from-written pitch (t ∷ ts) e =
    let b = box-stays pitch t.f0 (and_left (is_written t.f0) (all_written ts) e) in
    let i = from-written (as_f32 t.f0) ts (and_right (is_written t.f0) (all_written ts) e) in
    rw (b, i)

pub in-written : (ts : List Target) → all_written ts ≡ true → filled_in ts ≡ ts
unfolding filled_in
in-written ts e = from-written _ ts e

-- a box that was filled in is written
box-written : (pitch : Float) (v : Value) → is_written (box pitch v) ≡ true
unfolding box
box-written pitch Absent = refl
box-written pitch (Int i) = refl
box-written pitch (FloatValue x) = refl

all-filled : (pitch : Float) (ts : List Target) → all_written (filled_from pitch ts) ≡ true
unfolding filled_from all_written
all-filled pitch [] = refl
all-filled pitch (t ∷ ts) = rw (box-written pitch t.f0) (all-filled (as_f32 (box pitch t.f0)) ts)

pub in-filled : (ts : List Target) → all_written (filled_in ts) ≡ true
unfolding filled_in
in-filled ts = all-filled _ ts

-- so the marks of the targets with their boxes filled in are the same
pub marks-same : (rate : ℕ) (ts : List Target) → pitch_marks rate (filled_in ts) ≡ pitch_marks rate ts
marks-same rate ts = marks-filled rate (filled_in ts) ∙ ap (old_pitch_marks rate) (in-written (filled_in ts) (in-filled ts)) ∙ sym (marks-filled rate ts)
