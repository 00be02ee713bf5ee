-- Document 01, 'Proved examples': what its program prints of a call, for any settings.
use Rattle.std.specs.Prelude.{◌≡◌, true, List, ◌++◌, ℕ, ◌*◌, ◌≤◌, length, take, Err, None, Ok, Option, Result, Some}
use Rattle.refusal.specs.declared.Refusal.{Refusal}
use Rattle.refusal.specs.Number.{number_of}
use Rattle.voice.specs.Header.{in_scale}
use Rattle.voice.specs.Voice.{Voice, voice_of}
use Rattle.sheet.specs.Sheet.{Sheet, sheet_of}
use Rattle.lpc.specs.declared.FilterState.{FilterState}
use Rattle.lpc.specs.Filter.{cut}
use Rattle.lpc.specs.State.{fresh_state, periods_by}
use Rattle.call.specs.declared.Settings.{Settings}
use Rattle.call.specs.declared.Summary.{Summary}
use Rattle.call.specs.Call.{periods_of}
use Rattle.call.specs.Buffers.{Buffers, call_refusal, summary_of}
use Rattle.call.specs.Pull.{Lent, lent_of}
use Rattle.lines.specs.Lines.{summary, periods, refused}

-- ---- the text

-- the first line, and a line for each period
unfoldable pub spoken_text : Voice → Sheet → Settings → List ℕ
spoken_text v s settings =
    let m = summary_of v s settings in
    summary m.rate m.periods m.samples ++ periods (periods_of v s settings)

-- 'A refusal prints only `refused`, a space and the number'; else there is this text
abbrev pub refused_or : Option Refusal → List ℕ → List ℕ
refused_or None text = text
refused_or (Some r) text = refused (number_of r)

abbrev pub text_by : Voice → Sheet → Settings → Option Refusal → List ℕ
text_by v s settings u = refused_or u (spoken_text v s settings)

-- the text of a call with lent buffers
unfoldable pub call_text : List ℕ → List ℕ → Settings → Buffers → List ℕ
call_text file sheet settings b = text_by (voice_of file) (sheet_of sheet) settings (call_refusal file sheet settings b)

-- ---- what the steps are handed

-- the periods of samples that the pulls from a state give
unfoldable pub periods_for : FilterState → Lent → List (List ℕ)
periods_for s l = periods_by s.filter s.coeff_min s.coeff_range (cut s.order l.sizes l.rows l.excitation)

-- how many samples a pull gave
abbrev pub given_by : Result (Option ℕ) Refusal → ℕ
given_by (Ok (Some n)) = n
given_by (Ok None) = 0
given_by (Err r) = 0

-- a fresh state, lent all rows of the sizes
pub record Fresh (s : FilterState) (l : Lent) : Type 0 where
  pub fresh : s ≡ fresh_state s.filter s.order s.coeff_min s.coeff_range
  pub order_low : s.order ≤ 32
  pub least_in : in_scale s.coeff_min ≡ true
  pub range_in : in_scale s.coeff_range ≡ true
  pub rows_there : length l.sizes * s.order ≤ length l.rows

-- what a call filled of its buffers
abbrev pub front : Summary → List ℕ → List ℕ → List ℕ → Lent
front m sizes rows excitation =
    lent_of (take (4 * m.periods) sizes) (take (2 * (m.periods * m.order)) rows) (take m.samples excitation)

-- a call that was not refused left this summary, state and buffers
pub record Spoke (m : Summary) (s : FilterState) (sizes rows excitation : List ℕ) : Type 0 where
  pub rate_low : m.rate ≤ 48000
  pub periods_low : m.periods ≤ 1024
  pub samples_low : m.samples ≤ 4096
  pub order_low : m.order ≤ 32
  pub values_low : m.periods * m.order ≤ 32768
  pub sizes_there : 4 * m.periods ≤ length sizes
  pub rows_there : 2 * (m.periods * m.order) ≤ length rows
  pub excitation_there : m.samples ≤ length excitation
  pub fresh : Fresh s (front m sizes rows excitation)

-- the text by what the call left
unfoldable pub spoken_by : Summary → FilterState → List ℕ → List ℕ → List ℕ → List ℕ
spoken_by m s sizes rows excitation = summary m.rate m.periods m.samples ++ periods (periods_for s (front m sizes rows excitation))
