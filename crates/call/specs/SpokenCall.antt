-- Document 01: 'A spoken call is a call not refused and any list of pulls after it.'
use Rattle.std.specs.Prelude.{◌≡◌, List, ℕ, ◌*◌, take, None}
use Rattle.base.specs.Bytes.{Bytes}
use Rattle.voice.specs.Voice.{Voice, voice_of}
use Rattle.sheet.specs.Sheet.{Sheet, sheet_of}
use Rattle.lpc.specs.declared.FilterState.{FilterState}
use Rattle.call.specs.declared.Settings.{Settings}
use Rattle.call.specs.declared.Summary.{Summary}
use Rattle.call.specs.Call.{periods_of, samples_of_call}
use Rattle.call.specs.Buffers.{Buffers, call_refusal, summary_of, planned_of, buffers_after}
use Rattle.call.specs.Pull.{Lent, lent_of}
use Rattle.call.specs.Machine.{Shown, pulls}

-- the voice file, of bytes, and the sheet, the settings, the buffers as they were lent, and that the call was not refused
pub record SpokenCall : Type 0 where
  pub voice_file : List ℕ
  pub sheet_file : List ℕ
  pub settings : Settings
  pub lent : Buffers
  pub bytes : Bytes voice_file
  pub not_refused : call_refusal voice_file sheet_file settings lent ≡ None

abbrev pub voice_in : SpokenCall → Voice
voice_in c = voice_of c.voice_file

abbrev pub sheet_in : SpokenCall → Sheet
sheet_in c = sheet_of c.sheet_file

-- the periods of samples that demand 2 defines for the call, and all its samples
abbrev pub periods_in : SpokenCall → List (List ℕ)
periods_in c = periods_of (voice_in c) (sheet_in c) c.settings

abbrev pub samples_in : SpokenCall → List ℕ
samples_in c = samples_of_call (voice_in c) (sheet_in c) c.settings

-- 'All are lent the sizes, rows and excitation just as far as the call filled them, unwritten meanwhile': the bytes, and what these say
pub record LentBytes : Type 0 where
  pub sizes : List ℕ
  pub rows : List ℕ
  pub excitation : List ℕ

abbrev pub lent_by : Summary → Buffers → LentBytes
lent_by m b =
    record {
      sizes = take (4 * m.periods) b.sizes;
      rows = take (2 * (m.periods * m.order)) b.rows;
      excitation = take m.samples b.excitation;
    }

unfoldable pub bytes_after : SpokenCall → LentBytes
bytes_after c = lent_by (summary_of (voice_in c) (sheet_in c) c.settings) (buffers_after c.voice_file c.sheet_file c.settings c.lent)

abbrev pub read_as : LentBytes → Lent
read_as b = lent_of b.sizes b.rows b.excitation

abbrev pub lent_after : SpokenCall → Lent
lent_after c = read_as (bytes_after c)

-- 'The first pull gets the call's fresh filter state ..'
abbrev pub state_after : SpokenCall → FilterState
state_after c = (planned_of c.voice_file c.sheet_file c.settings c.lent).state

-- '.. each other the state the last one returned or left', and each 'a sample slice of any length'
unfoldable pub pulls_after : SpokenCall → List (List ℕ) → List Shown
pulls_after c ds = pulls (state_after c) (lent_after c) ds
