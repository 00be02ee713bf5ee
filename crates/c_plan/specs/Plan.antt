-- `diphone_need` and `diphone_plan`: what they answer and what they leave, by the bytes of the voice file and of the sheet.
use Rattle.std.specs.Prelude.{List, [], ◌∷◌, ℕ, leb, length, None, Option, Some}
use Rattle.base.specs.Choice.{pick}
use Rattle.base.specs.Lists.{every, or_next}
use Rattle.refusal.specs.declared.Refusal.{Refusal}
use Rattle.refusal.specs.declared.Refusal.TheVariants.{ShortBuffer}
use Rattle.voice.specs.Voice.{voice_of}
use Rattle.sheet.specs.Sheet.{sheet_of}
use Rattle.call.specs.declared.Settings.{Settings}
use Rattle.call.specs.Buffers.{Buffers, lent, need_of, check_refusal, call_refusal, filled, left_by, summary_of, fresh_of}
use Rattle.base.specs.Buffers.{unless_refused}
use Rattle.c_plan.specs.Reports.{report_length, need_bytes, summary_bytes}
use Rattle.c_state.specs.State.{state_length, bytes_of_state}

-- ---- diphone_need

-- 13 for a report of n bytes
abbrev pub short_report : ℕ → Option Refusal
short_report n = pick (leb report_length n) None (Some ShortBuffer)

-- 1 to 12, 16 and 17 as the call has them, then 13 for a report of n bytes
unfoldable pub refusal_of_need : List ℕ → List ℕ → Settings → ℕ → Option Refusal
refusal_of_need file sheet o n = or_next (check_refusal file sheet o) (short_report n)

abbrev pub need_left : List ℕ → List ℕ → Settings → List ℕ → List ℕ
need_left file sheet o old =
    unless_refused (refusal_of_need file sheet o (length old)) (need_bytes (need_of (voice_of file) (sheet_of sheet) o)) old

-- ---- diphone_plan

-- what a call is lent: its buffers, a state and a summary
pub record Handed : Type 0 where
  pub buffers : Buffers
  pub state : List ℕ
  pub summary : List ℕ

abbrev pub handed : List ℕ → List ℕ → List ℕ → List ℕ → List ℕ → List ℕ → List ℕ → List ℕ → Handed
handed index marks sizes rows excitation decoded state summary =
    record { buffers = lent index marks sizes rows excitation decoded; state = state; summary = summary }

-- 1 to 13, 16 and 17 as the call has them, then 13 for the state and the summary
unfoldable pub refusal_of_plan : List ℕ → List ℕ → Settings → Handed → Option Refusal
refusal_of_plan file sheet o h =
    or_next (call_refusal file sheet o h.buffers)
    (pick (every (leb state_length (length h.state) ∷ leb report_length (length h.summary) ∷ [])) None (Some ShortBuffer))

-- all of it afterwards, by the refusal
abbrev pub handed_by : List ℕ → List ℕ → Settings → Handed → Option Refusal → Handed
handed_by file sheet o h r =
    record {
      buffers = left_by (filled (voice_of file) (sheet_of sheet) o) h.buffers r;
      state = unless_refused r (bytes_of_state (fresh_of (voice_of file) o)) h.state;
      summary = unless_refused r (summary_bytes (summary_of (voice_of file) (sheet_of sheet) o)) h.summary;
    }

unfoldable pub handed_after : List ℕ → List ℕ → Settings → Handed → Handed
handed_after file sheet o h = handed_by file sheet o h (refusal_of_plan file sheet o h)
