-- Document 02, A8: document 01's example with empty periods, by both rules.
use Rattle.std.specs.Prelude.{◌≡◌, Bool, true, false, List, [], ◌∷◌, map, ℕ, length, None, Option}
use Rattle.base.specs.Text.{ascii}
use Rattle.base.specs.Buffers.{flat}
use Rattle.base.specs.Bytes.{bytes_of}
use Rattle.refusal.specs.declared.Refusal.{Refusal}
use Rattle.voice.specs.Voice.{voice_of}
use Rattle.sheet.specs.Sheet.{Sheet, sheet_of}
use Rattle.excitation.specs.Taken.{Period}
use Rattle.call.specs.Call.{periods_taken, periods_of}
use Rattle.call.specs.Buffers.{check_refusal}
use Rattle.transcript.specs.Program.{program_settings}
use Rattle.worked.specs.Files.{header_bytes, entry_bytes, voice_file}
use Rattle.worked.specs.ProvedExamples.{example_residual, example_sheet}
use Rattle.reporting.specs.Report.{Line, report_of}
use Rattle.joint.specs.OldRule.{old_periods, old_samples, old_report}
use Rattle.joint.specs.EmptyHeads.{changed}

-- document 01's example with these offsets, rows of one value, and halves; coeff_min is -1 and coeff_range 2, by their bits
unfoldable pub voice_with : List ℕ → List ℕ → ℕ → ℕ → List ℕ
voice_with offsets rows first second =
    voice_file (header_bytes (length rows) 1 8000 0xBF800000 0x40000000) (flat (bytes_of 2) rows) offsets example_residual
    (entry_bytes (ascii "pau-aa") 0 first second ∷ [])

-- the shortest that changes: each half has a period of 0 samples
abbrev pub shortest_voice : List ℕ
shortest_voice = voice_with (0 ∷ 0 ∷ 0 ∷ []) (10 ∷ 20 ∷ []) 1 1

-- half 1 has a period of 2 samples, half 2 one of 0 and one of 3
abbrev pub joint_voice : List ℕ
joint_voice = voice_with (0 ∷ 2 ∷ 2 ∷ 5 ∷ []) (10 ∷ 20 ∷ 30 ∷ []) 1 2

-- half 1 has periods of 0, 2 and 0 samples, half 2 of 0, 3 and 0
abbrev pub empty_voice : List ℕ
empty_voice = voice_with (0 ∷ 0 ∷ 2 ∷ 2 ∷ 2 ∷ 5 ∷ 5 ∷ []) (10 ∷ 20 ∷ 30 ∷ 40 ∷ 50 ∷ 60 ∷ []) 3 3

-- ---- document 01's sheet and settings on such a voice

abbrev pub sheet : Sheet
sheet = sheet_of example_sheet

-- what refuses the call, and the periods on the list
abbrev pub refusal_on : List ℕ → Option Refusal
refusal_on file = check_refusal file example_sheet program_settings

abbrev pub listed_on : List ℕ → List Bool
listed_on file = changed (voice_of file) sheet program_settings

-- pair, half, first sample and size of each line
abbrev pub numbers : List Line → List (List ℕ)
numbers ls = map (λ (l : Line). l.pair ∷ l.half ∷ l.first ∷ l.size ∷ []) ls

abbrev pub old_lines : List ℕ → List (List ℕ)
old_lines file = numbers (old_report (voice_of file) sheet program_settings)

abbrev pub new_lines : List ℕ → List (List ℕ)
new_lines file = numbers (report_of (voice_of file) sheet program_settings)

-- size and row of each period
abbrev pub sizes_and_rows : List Period → List (List ℕ)
sizes_and_rows ps = map (λ (p : Period). p.size ∷ p.row) ps

abbrev pub old_rows : List ℕ → List (List ℕ)
old_rows file = sizes_and_rows (old_periods (voice_of file) sheet program_settings)

abbrev pub new_rows : List ℕ → List (List ℕ)
new_rows file = sizes_and_rows (periods_taken (voice_of file) sheet program_settings)

-- the empty period of half 2 was half 1's, with half 1's row
pub record Shortest : Type 0 where
  pub spoken : refusal_on shortest_voice ≡ None
  pub listed : listed_on shortest_voice ≡ false ∷ true ∷ []
  pub lines_before : old_lines shortest_voice ≡ (1 ∷ 1 ∷ 0 ∷ 0 ∷ []) ∷ (1 ∷ 1 ∷ 0 ∷ 0 ∷ []) ∷ []
  pub lines_now : new_lines shortest_voice ≡ (1 ∷ 1 ∷ 0 ∷ 0 ∷ []) ∷ (1 ∷ 2 ∷ 0 ∷ 0 ∷ []) ∷ []
  pub rows_before : old_rows shortest_voice ≡ (0 ∷ 10 ∷ []) ∷ (0 ∷ 10 ∷ []) ∷ []
  pub rows_now : new_rows shortest_voice ≡ (0 ∷ 10 ∷ []) ∷ (0 ∷ 20 ∷ []) ∷ []

-- the same between periods with samples, which stay
pub record Joint : Type 0 where
  pub spoken : refusal_on joint_voice ≡ None
  pub listed : listed_on joint_voice ≡ false ∷ true ∷ false ∷ []
  pub lines_before : old_lines joint_voice ≡ (1 ∷ 1 ∷ 0 ∷ 2 ∷ []) ∷ (1 ∷ 1 ∷ 2 ∷ 0 ∷ []) ∷ (1 ∷ 2 ∷ 2 ∷ 3 ∷ []) ∷ []
  pub lines_now : new_lines joint_voice ≡ (1 ∷ 1 ∷ 0 ∷ 2 ∷ []) ∷ (1 ∷ 2 ∷ 2 ∷ 0 ∷ []) ∷ (1 ∷ 2 ∷ 2 ∷ 3 ∷ []) ∷ []
  pub rows_before : old_rows joint_voice ≡ (2 ∷ 10 ∷ []) ∷ (0 ∷ 10 ∷ []) ∷ (3 ∷ 30 ∷ []) ∷ []
  pub rows_now : new_rows joint_voice ≡ (2 ∷ 10 ∷ []) ∷ (0 ∷ 30 ∷ []) ∷ (3 ∷ 30 ∷ []) ∷ []
  pub samples : periods_of (voice_of joint_voice) sheet program_settings ≡ old_samples (voice_of joint_voice) sheet program_settings

-- no empty period of the first unit is on the list, and none after a period with samples
pub record Alone : Type 0 where
  pub spoken : refusal_on empty_voice ≡ None
  pub listed : listed_on empty_voice ≡ false ∷ false ∷ false ∷ true ∷ false ∷ false ∷ []
