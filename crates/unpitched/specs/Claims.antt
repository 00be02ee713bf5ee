-- Document 02, A6: a target without a pitch.
use Rattle.std.specs.Prelude.{◌≡◌, true, List, ℕ, ◌*◌, take, None, Ok}
use Rattle.base.specs.Bytes.{little_endian, elements}
use Rattle.base.specs.Lists.{Heads}
use Rattle.sheet.specs.declared.Target.{Target}
use Rattle.sheet.specs.Sheet.{sheet_of, sheet_refusal}
use Rattle.sheet.specs.Begins.{Begins}
use Rattle.marks.specs.PitchMarks.{pitch_marks}
use Rattle.call.specs.declared.Settings.{Settings}
use Rattle.call.specs.declared.Summary.{Summary}
use Rattle.call.specs.declared.Planned.{Planned}
use Rattle.call.specs.Buffers.{Buffers}
use Rattle.c_plan.specs.Plan.{Handed}
use Rattle.law.specs.Longer.{SameSettings}
use Rattle.law.specs.Made.{PlanMade}
use Rattle.law.specs.MadeInC.{PlanMadeInC}
use Rattle.unpitched.specs.Boxes.{filled_in, filled_sheet, all_written, old_pitch_marks}

-- ---- 'Differential runs hand the Rust a sheet with the empty boxes filled in.'

-- a sheet and the one with its boxes filled in, both read
pub record BoxesFilled (sheet filled : List ℕ) : Type 0 where
  pub reads : sheet_refusal sheet ≡ None
  pub filled_reads : sheet_refusal filled ≡ None
  pub is : sheet_of filled ≡ filled_sheet (sheet_of sheet)

-- ---- 'Under one voice and settings, where neither call is refused, a sheet that begins another still yields its beginning of the marks.'

-- the marks that a call leaves in its buffer: as many as its summary says, four bytes each
abbrev pub marks_left : Summary → Buffers → List ℕ
marks_left m b = elements 4 (take (4 * m.marks) b.marks)

-- the same of a call in C; the summary has their number at byte 24
abbrev pub marks_left_in_c : Handed → List ℕ
marks_left_in_c h = elements 4 (take (4 * little_endian 8 h.summary 24) h.buffers.marks)

-- ---- all of it

pub record Unpitched : Type 0 where
  -- the marks are document 01's of the targets with their boxes filled in,
  pub filled : (rate : ℕ) (ts : List Target) → pitch_marks rate ts ≡ old_pitch_marks rate (filled_in ts)
  -- of which none is empty,
  pub none_empty : (ts : List Target) → all_written (filled_in ts) ≡ true
  -- and which are the same where none was: 'A written 0 still counts as 0 Hz'
  pub written : (ts : List Target) → all_written ts ≡ true → filled_in ts ≡ ts
  -- a call on a sheet with its boxes filled in answers and leaves what the call on the sheet itself does, refused or not
  pub alike : (file sheet filled : List ℕ) (o : Settings) (b after after₁ : Buffers) (r r₁ : Planned) → BoxesFilled sheet filled
      → PlanMade file sheet o b r after → PlanMade file filled o b r₁ after₁ → (r ≡ r₁) × (after ≡ after₁)
  pub alike_in_c : (file sheet filled : List ℕ) (o : Settings) (h after after₁ : Handed) (r r₁ : ℕ) → BoxesFilled sheet filled
      → PlanMadeInC file sheet o h r after → PlanMadeInC file filled o h r₁ after₁ → (r ≡ r₁) × (after ≡ after₁)
  -- the marks of the shorter sheet head those of the longer one, in every join and whatever names its pairs find
  pub begins : (file sheet longer : List ℕ) (o p : Settings) (b b₁ after after₁ : Buffers) (r r₁ : Planned) (m m₁ : Summary)
      → SameSettings p o → Begins (sheet_of longer) (sheet_of sheet)
      → PlanMade file sheet o b r after → r.answer ≡ Ok m
      → PlanMade file longer p b₁ r₁ after₁ → r₁.answer ≡ Ok m₁
      → Heads (marks_left m after) (marks_left m₁ after₁)
  pub begins_in_c : (file sheet longer : List ℕ) (o p : Settings) (h h₁ after after₁ : Handed)
      → SameSettings p o → Begins (sheet_of longer) (sheet_of sheet)
      → PlanMadeInC file sheet o h 0 after → PlanMadeInC file longer p h₁ 0 after₁
      → Heads (marks_left_in_c after) (marks_left_in_c after₁)
