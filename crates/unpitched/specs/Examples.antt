-- Document 02, A6: computed examples, at 8,000 samples a second.
use Rattle.std.specs.Prelude.{◌≡◌, true, false, List, [], ◌∷◌, ℕ, pos, negsuc, None, Option, Some}
use Rattle.std.specs.Float.{fin}
use Rattle.refusal.specs.declared.Refusal.{Refusal}
use Rattle.voice.specs.Voice.{voice_of}
use Rattle.sheet.specs.declared.Value.{Value}
use Rattle.sheet.specs.declared.Value.TheVariants.{Int, Float as FloatValue, Absent}
use Rattle.sheet.specs.declared.Target.{Target}
use Rattle.sheet.specs.Sheet.{sheet_of}
use Rattle.marks.specs.PitchMarks.{pitch_marks}
use Rattle.lpc.specs.declared.ResynthType.TheVariants.{Fixed}
use Rattle.call.specs.declared.JoinType.TheVariants.{ModifiedLpc}
use Rattle.call.specs.declared.Settings.{Settings}
use Rattle.call.specs.Call.{plan_of}
use Rattle.call.specs.Buffers.{call_refusal}
use Rattle.transcript.specs.Program.{program_buffers}
use Rattle.worked.specs.ProvedExamples.{example_voice}
use Rattle.unpitched.specs.Boxes.{filled_in}
use Rattle.unpitched.specs.Claims.{BoxesFilled}

-- ---- targets

-- a pitch at a place: the start, 1/64 and 1/32 of a second
abbrev pub start : Value → Target
start f0 = record { pos = Absent; f0 = f0 }

abbrev pub early : Value → Target
early f0 = record { pos = FloatValue (fin false 1 (negsuc 5)); f0 = f0 }

abbrev pub late : Value → Target
late f0 = record { pos = FloatValue (fin false 1 (negsuc 4)); f0 = f0 }

-- ---- two sheets, of which the second begins with the first

-- two phones without names or ends, and targets without a pitch: at 1/32 of a second; at 1/32 and 5/128
unfoldable pub shorter : List ℕ
shorter = 2 ∷ 0 ∷ 2 ∷ 0 ∷ 0 ∷ 2 ∷ 0 ∷ 1 ∷ 1 ∷ 0 ∷ 0 ∷ 0 ∷ 61 ∷ 2 ∷ []

unfoldable pub longer : List ℕ
longer = 2 ∷ 0 ∷ 2 ∷ 0 ∷ 0 ∷ 2 ∷ 0 ∷ 2 ∷ 1 ∷ 0 ∷ 0 ∷ 0 ∷ 61 ∷ 2 ∷ 1 ∷ 0 ∷ 0 ∷ 32 ∷ 61 ∷ 2 ∷ []

-- the first with its box filled in: 120 as a float
unfoldable pub shorter_filled : List ℕ
shorter_filled = 2 ∷ 0 ∷ 2 ∷ 0 ∷ 0 ∷ 2 ∷ 0 ∷ 1 ∷ 1 ∷ 0 ∷ 0 ∷ 0 ∷ 61 ∷ 1 ∷ 0 ∷ 0 ∷ 240 ∷ 66 ∷ []

-- the modified join
abbrev pub modified : Settings
modified = record { join = ModifiedLpc; filter = Some Fixed; fold = false; strict = false }

-- calls with document 01's voice and its program's buffers
abbrev pub refusal_of : List ℕ → Option Refusal
refusal_of sheet = call_refusal example_voice sheet modified program_buffers

abbrev pub marks_of : List ℕ → List ℕ
marks_of sheet = (plan_of (voice_of example_voice) (sheet_of sheet) modified).marks

-- ---- the examples

-- the marks of targets, none refused
abbrev pub Gives : List Target → List ℕ → Type 0
Gives ts ms = pitch_marks 8000 ts ≡ record { refusal = None; marks = ms }

pub record Examples : Type 0 where
  -- '120 for the first': every 66 2/3 samples
  pub first : Gives (late Absent ∷ []) (66 ∷ 133 ∷ 200 ∷ 266 ∷ [])
  -- 100 Hz goes on from a target that makes no mark, once and twice: every 80 samples
  pub once : Gives (start (Int (pos 100)) ∷ late Absent ∷ []) (80 ∷ 160 ∷ 240 ∷ 320 ∷ [])
  pub twice : Gives (start (Int (pos 100)) ∷ early Absent ∷ late Absent ∷ []) (80 ∷ 160 ∷ 240 ∷ 320 ∷ [])
  -- 'A written 0 still counts as 0 Hz', and so goes on; minus zero too
  pub zero : Gives (start (Int (pos 0)) ∷ early Absent ∷ late Absent ∷ []) []
  pub minus_zero : Gives (start (FloatValue (fin true 0 (pos 0))) ∷ early Absent ∷ late Absent ∷ []) []
  -- what goes on is the f0 counted: 16,777,217 is 2 ^ 24 as f32
  pub counted : filled_in (start (Int (pos 16777217)) ∷ late Absent ∷ [])
      ≡ start (Int (pos 16777217)) ∷ late (FloatValue (fin false 1 (pos 24))) ∷ []
  -- a sheet with its box filled in
  pub boxes : BoxesFilled shorter shorter_filled
  -- 'a sheet that begins another still yields its beginning of the marks'
  pub spoken : (refusal_of shorter ≡ None) × (refusal_of longer ≡ None)
  pub begun : (marks_of shorter ≡ 66 ∷ 133 ∷ 200 ∷ 266 ∷ []) × (marks_of longer ≡ 66 ∷ 133 ∷ 200 ∷ 266 ∷ 333 ∷ [])
