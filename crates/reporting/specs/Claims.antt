-- Document 02, A2: what holds of every report.
use Rattle.std.specs.Prelude.{◌≡◌, List, [], ◌∷◌, map, ℕ, ◌+◌, ◌*◌, ◌≤◌, ◌<◌, length, get_or}
use Rattle.voice.specs.Voice.{Voice, voice_of}
use Rattle.sheet.specs.Sheet.{Sheet, sheet_of}
use Rattle.marks.specs.Rising.{Rising}
use Rattle.excitation.specs.Taken.{total}
use Rattle.call.specs.declared.Settings.{Settings}
use Rattle.call.specs.Call.{periods_of, samples_of_call}
use Rattle.reporting.specs.Report.{Line, report_of, refusal_of_report, lines_left}

abbrev pub pairs : List Line → List ℕ
pairs ls = map (λ (l : Line). l.pair) ls

abbrev pub line_sizes : List Line → List ℕ
line_sizes ls = map (λ (l : Line). l.size) ls

-- each first sample is the sum of the sizes before; the first line's is n
abbrev pub FirstsFrom : ℕ → List Line → Type 0
FirstsFrom n [] = Unit
FirstsFrom n (l ∷ ls) = (l.first ≡ n) × FirstsFrom (n + l.size) ls

-- the half of a pair that a line belongs to, of all halves: two a pair
abbrev pub halves : List Line → List ℕ
halves ls = map (λ (l : Line). 2 * l.pair + l.half) ls

-- a pair from 1 on that has a right segment among n, and one of its two halves
pub record OfPair (n : ℕ) (l : Line) : Type 0 where
  pub pair : 1 ≤ l.pair
  pub low : l.pair < n
  pub half : 1 ≤ l.half
  pub second : l.half ≤ 2

pub record HoldsOf (v : Voice) (s : Sheet) (o : Settings) : Type 0 where
  -- 'one line a period', each with its size
  pub lines : length (report_of v s o) ≡ length (periods_of v s o)
  pub sizes : line_sizes (report_of v s o) ≡ map length (periods_of v s o)
  -- 'sizes add up to the samples of the call'
  pub adds : total (line_sizes (report_of v s o)) ≡ length (samples_of_call v s o)
  -- 'first sample counted from 0'
  pub firsts : FirstsFrom 0 (report_of v s o)
  -- 'its pair's number, from 1, and which half it is, 1 or 2'
  pub each : (i : ℕ) (l : Line) → i < length (report_of v s o) → OfPair (length s.segments) (get_or (report_of v s o) i l)
  -- pairs never fall, in every join, nor does the half within a pair
  pub rising : Rising 1 (pairs (report_of v s o))
  pub onward : Rising 0 (halves (report_of v s o))

-- settings of one join and one fold, whatever their filters, have one report
pub record AnyFilter (file sheet : List ℕ) (o o₁ : Settings) : Type 0 where
  pub report : report_of (voice_of file) (sheet_of sheet) o ≡ report_of (voice_of file) (sheet_of sheet) o₁
  pub refusal : (n : ℕ) → refusal_of_report file sheet o n ≡ refusal_of_report file sheet o₁ n
  pub left : (old : List ℕ) → lines_left file sheet o old ≡ lines_left file sheet o₁ old
