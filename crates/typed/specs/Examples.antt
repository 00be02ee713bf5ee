-- Document 02, A4: computed examples.
use Rattle.std.specs.Prelude.{◌≡◌, true, false, List, [], ◌∷◌, ◌++◌, ℕ, length, None, Some}
use Prim.Native.String.{String}
use Rattle.base.specs.Text.{ascii}
use Rattle.refusal.specs.declared.Refusal.TheVariants.{BadSheet, NotFinite, LongText}
use Rattle.voice.specs.Voice.{voice_of}
use Rattle.sheet.specs.Sheet.{sheet_refusal, sheet_of}
use Rattle.lpc.specs.declared.ResynthType.TheVariants.{Fixed}
use Rattle.call.specs.declared.JoinType.TheVariants.{ModifiedLpc}
use Rattle.call.specs.declared.Settings.{Settings}
use Rattle.call.specs.Call.{plan_of}
use Rattle.call.specs.Buffers.{call_refusal}
use Rattle.transcript.specs.Program.{program_buffers}
use Rattle.worked.specs.ProvedExamples.{example_voice}
use Rattle.typed.specs.Floats.{in_floats}

-- ---- bytes

-- a value of kind 3
abbrev pub typed : String → List ℕ
typed s = 3 ∷ length (ascii s) ∷ ascii s

-- f32 bits: 0, 100, 1/32 and 1/16
abbrev pub zero : List ℕ
zero = 1 ∷ 0 ∷ 0 ∷ 0 ∷ 0 ∷ []

abbrev pub hundred : List ℕ
hundred = 1 ∷ 0 ∷ 0 ∷ 200 ∷ 66 ∷ []

abbrev pub early : List ℕ
early = 1 ∷ 0 ∷ 0 ∷ 0 ∷ 61 ∷ []

abbrev pub late : List ℕ
late = 1 ∷ 0 ∷ 0 ∷ 128 ∷ 61 ∷ []

-- two phones without names, by the values of their ends; two targets, by pos and f0, the second without a pitch
abbrev pub sheet : List ℕ → List ℕ → List ℕ → List ℕ → List ℕ → List ℕ
sheet end end₁ pos f0 pos₁ = (2 ∷ 0 ∷ end) ++ (0 ∷ 0 ∷ end₁) ++ (0 ∷ 2 ∷ pos) ++ f0 ++ pos₁ ++ (2 ∷ [])

-- one phone without a name, by the bytes from its end on
abbrev pub one : List ℕ → List ℕ
one end = 1 ∷ 0 ∷ end

-- the bits of an infinity
abbrev pub infinite : List ℕ
infinite = 1 ∷ 0 ∷ 0 ∷ 128 ∷ 127 ∷ []

-- ---- the examples

-- the office's sheet, and the same in floats
unfoldable pub office : List ℕ
office = sheet (typed "0.03125") (typed "+.0625 s") (typed "-") (typed "100") (typed "0.03125000")

unfoldable pub in_bits : List ℕ
in_bits = sheet early late zero hundred early

-- a pitch without a digit
unfoldable pub no_pitch : List ℕ
no_pitch = sheet (typed "0.03125") (typed "+.0625 s") (typed "0") (typed "?") (typed "0.03125")

-- calls with document 01's voice, 8,000 samples a second, and its program's buffers, in the modified join
abbrev pub modified : Settings
modified = record { join = ModifiedLpc; filter = Some Fixed; fold = false; strict = false }

abbrev pub Marks : List ℕ → List ℕ → Type 0
Marks s ms = (call_refusal example_voice s modified program_buffers ≡ None) × ((plan_of (voice_of example_voice) (sheet_of s) modified).marks ≡ ms)

pub record Examples : Type 0 where
  -- all texts as floats, the second and the fourth, none
  pub all_texts : in_floats (true ∷ true ∷ true ∷ true ∷ true ∷ []) office ≡ in_bits
  pub some_texts : in_floats (false ∷ true ∷ false ∷ true ∷ []) office
      ≡ sheet (typed "0.03125") late (typed "-") hundred (typed "0.03125000")
  pub no_texts : in_floats [] office ≡ office
  -- both are spoken, 100 Hz from the start on: every 80 samples
  pub marks : Marks office (80 ∷ 160 ∷ 240 ∷ 320 ∷ [])
  pub float_marks : Marks in_bits (80 ∷ 160 ∷ 240 ∷ 320 ∷ [])
  -- 'A written 0 still counts as 0 Hz, as does a text without a digit'
  pub no_digit : Marks no_pitch []
  -- 12 bytes are read, and 13 are 17 though none of them is there; cut short it is 8
  pub twelve : sheet_refusal (one (typed "123456789.25") ++ (0 ∷ 0 ∷ [])) ≡ None
  pub thirteen : sheet_refusal (one (3 ∷ 13 ∷ [])) ≡ Some LongText
  pub short : sheet_refusal (one (3 ∷ 12 ∷ 49 ∷ [])) ≡ Some BadSheet
  pub kind4 : sheet_refusal (one (4 ∷ 0 ∷ [])) ≡ Some BadSheet
  -- whichever is met first: 17 before 9 and 8, 9 before 17, 8 (a name of 33 bytes) before 17
  pub long_first : sheet_refusal (2 ∷ 0 ∷ 3 ∷ 13 ∷ 0 ∷ 0 ∷ infinite) ≡ Some LongText
  pub infinite_first : sheet_refusal ((2 ∷ 0 ∷ infinite) ++ (0 ∷ 0 ∷ 3 ∷ 13 ∷ [])) ≡ Some NotFinite
  pub name_first : sheet_refusal (1 ∷ 33 ∷ 3 ∷ 13 ∷ []) ≡ Some BadSheet
