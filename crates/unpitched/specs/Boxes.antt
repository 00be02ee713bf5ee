-- Document 02, A6: 'Differential runs hand the Rust a sheet with the empty boxes filled in.'
use Rattle.std.specs.Prelude.{Bool, true, false, ◌&&◌, List, [], ◌∷◌, ℕ, pos, Float, None}
use Rattle.std.specs.Float.{fin, binary64}
use Rattle.std.specs.Float.Ieee.{of_int}
use Rattle.sheet.specs.declared.Value.{Value}
use Rattle.sheet.specs.declared.Value.TheVariants.{Int, Float as FloatValue, Absent}
use Rattle.sheet.specs.declared.Target.{Target}
use Rattle.sheet.specs.Sheet.{Sheet, as_f32}
use Rattle.marks.specs.PitchMarks.{Made, Stage, first_stage, climb_to, stage_after, then_marks, position_counted}

-- ---- the boxes filled in

-- an empty box takes the pitch that goes on, a written one stays
unfoldable pub box : Float → Value → Value
box pitch Absent = FloatValue pitch
box pitch (Int i) = Int i
box pitch (FloatValue x) = FloatValue x

-- box by box, also where a target makes no mark: what a box then counts goes on
unfoldable pub filled_from : Float → List Target → List Target
filled_from pitch [] = []
filled_from pitch (t ∷ ts) =
    let f0 = box pitch t.f0 in
    record { pos = t.pos; f0 = f0 } ∷ filled_from (as_f32 f0) ts

-- '120 for the first' (15 × 2 ^ 3)
unfoldable pub filled_in : List Target → List Target
filled_in ts = filled_from (fin false 15 (pos 3)) ts

-- a sheet's targets so, its segments as they are
abbrev pub filled_sheet : Sheet → Sheet
filled_sheet s = record { segments = s.segments; targets = filled_in s.targets }

-- ---- no box is empty

abbrev pub is_written : Value → Bool
is_written Absent = false
is_written (Int i) = true
is_written (FloatValue x) = true

unfoldable pub all_written : List Target → Bool
all_written [] = true
all_written (t ∷ ts) = is_written t.f0 && all_written ts

-- ---- document 01's marks: 'absent counts 0'

unfoldable pub old_marks_from : Float → Stage → List Target → Made
old_marks_from rate s [] = record { refusal = None; marks = [] }
old_marks_from rate s (t ∷ ts) =
    let position = position_counted t in
    let f0 = as_f32 t.f0 in
    let c = climb_to rate s position f0 in
    then_marks c.refusal c.marks (old_marks_from rate (stage_after c position f0) ts)

unfoldable pub old_pitch_marks : ℕ → List Target → Made
old_pitch_marks rate ts = old_marks_from (of_int binary64 (pos rate)) first_stage ts
