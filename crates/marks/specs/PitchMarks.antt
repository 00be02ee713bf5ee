-- Document 01, 'Marks follow `pitch_marks`: f64, first f0 120, slope rounded to f32, stop at an instantaneous f0 not above 0.' Document 02,
-- A6: a target without a pitch.
use Rattle.std.specs.Prelude.{ℕ, zero, suc, Bool, true, false, ◌&&◌, List, [], ◌∷◌, ◌++◌, pos, nat_le, Float, None, Option, Some}
use Rattle.std.specs.Float.{fin, binary64}
use Rattle.std.specs.Float.Ieee.{add, sub, mul, div, lt, ne, of_int, to_unsigned}
use Rattle.float.specs.Casts.{narrow}
use Rattle.refusal.specs.declared.Refusal.{Refusal}
use Rattle.refusal.specs.declared.Refusal.TheVariants.{BadSlope, PastLimit, TooManyMarks}
use Rattle.sheet.specs.declared.Value.{Value}
use Rattle.sheet.specs.declared.Value.TheVariants.{Int, Float as FloatValue, Absent}
use Rattle.sheet.specs.declared.Target.{Target}
use Rattle.sheet.specs.Sheet.{is_finite, as_f32}
use Rattle.units.specs.Units.{limit}

-- the most marks that a call has
abbrev pub most_marks : ℕ
most_marks = 65536

-- the marks made, and the refusal that ended them, if one did
pub record Made : Type 0 where
  pub refusal : Option Refusal
  pub marks : List ℕ

-- ---- the marks up to one target

-- The contour between two targets: it leaves the time `from` at the pitch `f0`, and `slope` is Hz per second; marks are made while the time
-- is below `position`; `rate` is samples per second.
pub record Contour : Type 0 where
  pub rate : Float
  pub from : Float
  pub f0 : Float
  pub slope : Float
  pub position : Float

-- the instantaneous f0: last f0 + (time - last position) × slope
unfoldable pub f0_at : Contour → Float → Float
f0_at c time = add binary64 c.f0 (mul binary64 (sub binary64 time c.from) c.slope)

-- one more mark is made: the time is below the target's position, and the f0 is above 0
unfoldable pub goes_on : Contour → Float → Bool
goes_on c time = lt time c.position && lt (fin false 0 (pos 0)) (f0_at c time)

-- one period later: time + 1 / f0
unfoldable pub next_time : Contour → Float → Float
next_time c time = add binary64 time (div binary64 (fin false 1 (pos 0)) (f0_at c time))

-- the mark at a time: rate × time, truncated
unfoldable pub mark_at : Contour → Float → ℕ
mark_at c time = to_unsigned 64 (mul binary64 c.rate time)

-- the marks up to a target; the time after them, and how many marks are still allowed
pub record Climb : Type 0 where
  pub refusal : Option Refusal
  pub marks : List ℕ
  pub time : Float
  pub left : ℕ

abbrev pub ends : Option Refusal → Float → ℕ → Climb
ends r time left = record { refusal = r; marks = []; time = time; left = left }

abbrev pub with_mark : ℕ → Climb → Climb
with_mark m c = record { refusal = c.refusal; marks = m ∷ c.marks; time = c.time; left = c.left }

-- 'count, mark': 12 where no more are allowed, then 11 where the mark is above the limit
unfoldable pub climb : Contour → ℕ → Float → Climb
climb c zero time = elim (goes_on c time) [ false ↦ ends None time 0 | true ↦ ends (Some TooManyMarks) time 0 ]
climb c (suc n) time =
    elim (goes_on c time) [
      | false ↦ ends None time (suc n)
      | true ↦
          elim (nat_le (mark_at c (next_time c time)) limit) [
            | false ↦ ends (Some PastLimit) time (suc n)
            | true ↦ with_mark (mark_at c (next_time c time)) (climb c n (next_time c time))
          ]
    ]

-- ---- from target to target

-- the time, the position and the f0 counted for the last target, and how many marks are still allowed
pub record Stage : Type 0 where
  pub time : Float
  pub position : Float
  pub f0 : Float
  pub left : ℕ

-- at first: time 0, position 0, 'first f0 120' (15 × 2 ^ 3)
abbrev pub first_stage : Stage
first_stage = record { time = fin false 0 (pos 0); position = fin false 0 (pos 0); f0 = fin false 15 (pos 3); left = most_marks }

-- (f0 - last f0) / (position - last position), rounded to f32
unfoldable pub slope_of : Stage → Float → Float → Float
slope_of s position f0 = narrow (div binary64 (sub binary64 f0 s.f0) (sub binary64 position s.position))

abbrev pub contour_to : Float → Stage → Float → Float → Contour
contour_to rate s position f0 = record { rate = rate; from = s.position; f0 = s.f0; slope = slope_of s position f0; position = position }

-- one target: where the time differs from its position, and that is past the last one, 'slope' (10), then its marks
unfoldable pub climb_to : Float → Stage → Float → Float → Climb
climb_to rate s position f0 =
    elim (ne s.time position && lt s.position position) [
      | false ↦ ends None s.time s.left
      | true ↦
          elim (is_finite (slope_of s position f0)) [
            | false ↦ ends (Some BadSlope) s.time s.left
            | true ↦ climb (contour_to rate s position f0) s.left s.time
          ]
    ]

abbrev pub stage_after : Climb → Float → Float → Stage
stage_after c position f0 = record { time = c.time; position = position; f0 = f0; left = c.left }

-- the marks of one target, then those of the others, if none was refused
abbrev pub then_marks : Option Refusal → List ℕ → Made → Made
then_marks None ms rest = record { refusal = rest.refusal; marks = ms ++ rest.marks }
then_marks (Some r) ms rest = record { refusal = Some r; marks = ms }

-- the position that a target counts: 'an absent pos still counts 0'
abbrev pub position_counted : Target → Float
position_counted t = as_f32 t.pos

-- the f0 that it counts, where the target before it counted `last`: 'An absent f0 takes the f0 counted for the target before it, 120 for
-- the first. A written 0 still counts as 0 Hz'
unfoldable pub f0_counted : Float → Value → Float
f0_counted last Absent = last
f0_counted last (Int i) = as_f32 (Int i)
f0_counted last (FloatValue x) = as_f32 (FloatValue x)

unfoldable pub marks_from : Float → Stage → List Target → Made
marks_from rate s [] = record { refusal = None; marks = [] }
marks_from rate s (t ∷ ts) =
    let position = position_counted t in
    let f0 = f0_counted s.f0 t.f0 in
    let c = climb_to rate s position f0 in
    then_marks c.refusal c.marks (marks_from rate (stage_after c position f0) ts)

-- at a rate in samples per second
unfoldable pub pitch_marks : ℕ → List Target → Made
pitch_marks rate ts = marks_from (of_int binary64 (pos rate)) first_stage ts
