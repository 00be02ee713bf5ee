-- Inner: The making of pitch marks one at a time: what is still to come from where it stands.
use Rattle.std.specs.Prelude.{◌≡◌, ℕ, ◌+◌, ◌-◌, ◌≤◌, Bool, true, false, ◌&&◌, List, [], ◌∷◌, drop, pos, nat_le, nat_lt, Float, Err, None, Ok, Option, Result, Some}
use Rattle.std.specs.Float.{fin, binary64}
use Rattle.std.specs.Float.Ieee.{lt, ne, of_int}
use Rattle.base.specs.Choice.{pick}
use Rattle.refusal.specs.declared.Refusal.{Refusal}
use Rattle.refusal.specs.declared.Refusal.TheVariants.{BadSlope, PastLimit, TooManyMarks}
use Rattle.sheet.specs.declared.Target.{Target}
use Rattle.sheet.specs.Sheet.{Got, fails, gets, target, repeated, is_finite}
use Rattle.sheet.specs.Places.{is_read}
use Rattle.sheet.specs.declared.Places.{Places}
use Rattle.units.specs.Units.{limit}
use Rattle.marks.specs.declared.Walk.{Walk}
use Rattle.marks.specs.PitchMarks.{Made, Contour, Climb, Stage, most_marks, goes_on, next_time, mark_at, climb, ends, slope_of, stage_after, then_marks, marks_from}

-- ---- where the walk stands

-- the contour to the target that it goes to
abbrev pub contour_of : Walk → Contour
contour_of w = record { rate = w.rate; from = w.from; f0 = w.base; slope = w.slope; position = w.position }

-- the same once it is there
abbrev pub stage_of : Walk → Stage
stage_of w = record { time = w.time; position = w.position; f0 = w.f0; left = w.left }

-- the next mark is on the way to that target
abbrev pub on_way : Walk → Bool
on_way w = w.climbs && goes_on (contour_of w) w.time

-- ---- what is still to come

-- the marks up to that target
unfoldable pub climb_of : Walk → Climb
climb_of w = pick w.climbs (climb (contour_of w) w.left w.time) (ends None w.time w.left)

-- then those of the targets ts
unfoldable pub coming_to : Walk → List Target → Made
coming_to w ts = let c = climb_of w in then_marks c.refusal c.marks (marks_from w.rate (stage_after c w.position w.f0) ts)

abbrev pub read_targets : Got (List Target) → List Target
read_targets (fails r) = []
read_targets (gets ts bs) = ts

-- the targets of a sheet that it has not gone to yet
abbrev pub targets_ahead : List ℕ → Walk → Got (List Target)
targets_ahead sheet w = repeated target w.targets (drop w.at sheet)

unfoldable pub coming : List ℕ → Walk → Made
coming sheet w = coming_to w (read_targets (targets_ahead sheet w))

-- no mark more, with a refusal or without
abbrev pub stops : Option Refusal → Made
stops r = record { refusal = r; marks = [] }

-- every target ahead is read
abbrev pub Reads : List ℕ → Walk → Type 0
Reads sheet w = is_read (targets_ahead sheet w) ≡ true

-- before the first target
abbrev pub fresh_walk : Places → ℕ → Walk
fresh_walk p rate =
    record {
      rate = of_int binary64 (pos rate);
      time = fin false 0 (pos 0);
      from = fin false 0 (pos 0);
      base = fin false 0 (pos 0);
      slope = fin false 0 (pos 0);
      position = fin false 0 (pos 0);
      f0 = fin false 15 (pos 3);
      climbs = false;
      left = most_marks;
      at = p.targets.at;
      targets = p.targets.count;
    }

-- ---- on to a target

-- the walk goes to a target at a position, with an f0; the sheet goes on at `next`
abbrev pub moved : Walk → Float → Float → ℕ → Bool → Float → Walk
moved w position f0 next climbs slope =
    record {
      rate = w.rate;
      time = w.time;
      from = w.position;
      base = w.f0;
      slope = slope;
      position = position;
      f0 = f0;
      climbs = climbs;
      left = w.left;
      at = next;
      targets = w.targets - 1;
    }

-- the time differs from the position, and that is past the last one
abbrev pub is_ahead : Walk → Float → Bool
is_ahead w position = ne w.time position && lt w.position position

unfoldable pub aimed : Walk → Float → Float → ℕ → Result Walk Refusal
aimed w position f0 next =
    let slope = slope_of (stage_of w) position f0 in
    pick (is_ahead w position)
    (pick (is_finite slope) (Ok (moved w position f0 next true slope)) (Err BadSlope))
    (Ok (moved w position f0 next false (fin false 0 (pos 0))))

-- the walk goes to the next target of the sheet: the same is still to come
abbrev pub Advanced : List ℕ → Walk → Result Walk Refusal → Type 0
Advanced sheet w (Ok n) = (coming sheet n ≡ coming sheet w) × Reads sheet n × (n.left ≡ w.left) × (n.targets + 1 ≡ w.targets)
Advanced sheet w (Err r) = coming sheet w ≡ stops (Some r)

-- the walk goes to the target on the way to which the next mark is
abbrev pub IsSettled : List ℕ → Walk → Result (Option Walk) Refusal → Type 0
IsSettled sheet w (Ok (Some n)) = (coming sheet n ≡ coming sheet w) × Reads sheet n × (n.left ≡ w.left) × (on_way n ≡ true)
IsSettled sheet w (Err r) = coming sheet w ≡ stops (Some r)
IsSettled sheet w (Ok None) = coming sheet w ≡ stops None

-- ---- one mark

-- the walk at a later time, with one mark made
abbrev pub later : Walk → Float → Walk
later w time =
    record {
      rate = w.rate;
      time = time;
      from = w.from;
      base = w.base;
      slope = w.slope;
      position = w.position;
      f0 = w.f0;
      climbs = w.climbs;
      left = w.left - 1;
      at = w.at;
      targets = w.targets;
    }

-- 'count, mark': on the way to a target
unfoldable pub marked : Walk → Result (ℕ × Walk) Refusal
marked w =
    let time = next_time (contour_of w) w.time in
    let m = mark_at (contour_of w) time in
    pick (nat_lt 0 w.left) (pick (nat_le m limit) (Ok (m, later w time)) (Err PastLimit)) (Err TooManyMarks)

-- what a mark begins, with what comes after it
abbrev pub beginning : ℕ → Made → Made
beginning m rest = record { refusal = rest.refusal; marks = m ∷ rest.marks }

-- a step gives the first of what is still to come, and the walk from where the rest comes
pub record Steps (sheet : List ℕ) (w : Walk) (m : ℕ) (n : Walk) : Type 0 where
  pub is : coming sheet w ≡ beginning m (coming sheet n)
  pub ahead : Reads sheet n
  pub counted : n.left + 1 ≡ w.left
  pub low : m ≤ limit

-- a step, no mark more, or the refusal that ends the marks
abbrev pub IsNext : List ℕ → Walk → Result (Option (ℕ × Walk)) Refusal → Type 0
IsNext sheet w (Ok (Some s)) = Steps sheet w s.0 s.1
IsNext sheet w (Err r) = coming sheet w ≡ stops (Some r)
IsNext sheet w (Ok None) = coming sheet w ≡ stops None
