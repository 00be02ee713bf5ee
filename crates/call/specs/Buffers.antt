-- Document 01: what a call refuses, answers and leaves in its lent buffers. Each buffer is a list of bytes; an element of the index has 8,
-- of marks and sizes 4, of rows 2, of excitation and decode buffer 1, little-endian.
use Rattle.std.specs.Prelude.{Bool, false, List, [], ◌∷◌, ℕ, ◌/◌, leb, pos, length, Err, None, Ok, Option, Result, Some}
use Rattle.std.specs.Float.{fin}
use Rattle.base.specs.Choice.{pick}
use Rattle.base.specs.Lists.{every, or_next}
use Rattle.base.specs.Buffers.{over, flat}
use Rattle.base.specs.Bytes.{bytes_of}
use Rattle.refusal.specs.declared.Refusal.{Refusal}
use Rattle.refusal.specs.declared.Refusal.TheVariants.{ShortBuffer}
use Rattle.refusal.specs.Number.{number_of}
use Rattle.voice.specs.Voice.{Voice, voice_of}
use Rattle.voice.specs.Periods.{decode_room}
use Rattle.voice.specs.Opening.{opening_refusal, index_bytes}
use Rattle.sheet.specs.Sheet.{Sheet, sheet_of, sheet_refusal}
use Rattle.excitation.specs.Taken.{sizes_of, rows_of, excitation_of, decoded_over}
use Rattle.lpc.specs.declared.ResynthType.TheVariants.{Fixed}
use Rattle.lpc.specs.declared.FilterState.{FilterState}
use Rattle.lpc.specs.State.{fresh_state}
use Rattle.call.specs.declared.Settings.{Settings}
use Rattle.call.specs.declared.Need.{Need}
use Rattle.call.specs.declared.Lengths.{Lengths}
use Rattle.call.specs.declared.Summary.{Summary}
use Rattle.call.specs.declared.Planned.{Planned}
use Rattle.call.specs.Call.{filter_in, plan_of, read_refusal, periods_taken}

pub record Buffers : Type 0 where
  pub index : List ℕ
  pub marks : List ℕ
  pub sizes : List ℕ
  pub rows : List ℕ
  pub excitation : List ℕ
  pub decoded : List ℕ

-- the six lent buffers
abbrev pub lent : List ℕ → List ℕ → List ℕ → List ℕ → List ℕ → List ℕ → Buffers
lent index marks sizes rows excitation decoded =
    record {
      index = index;
      marks = marks;
      sizes = sizes;
      rows = rows;
      excitation = excitation;
      decoded = decoded;
    }

-- ---- what a call fills

-- 'A call also fills the sorted index, every mark made, and for the taken periods the sizes, the row .. and the excitation': the bytes,
-- buffer by buffer
unfoldable pub filled : Voice → Sheet → Settings → Buffers
filled v s o =
    let ps = periods_taken v s o in
    record {
      index = index_bytes v;
      marks = flat (bytes_of 4) (plan_of v s o).marks;
      sizes = flat (bytes_of 4) (sizes_of ps);
      rows = flat (bytes_of 2) (rows_of ps);
      excitation = excitation_of ps;
      decoded = decoded_over v [] ps;
    }

-- ---- 13: a buffer lent is shorter than stated

-- how many elements each buffer must have: as many as the call fills, and the decode buffer its room
unfoldable pub need_of : Voice → Sheet → Settings → Need
need_of v s o =
    let ps = periods_taken v s o in
    record {
      entries = length v.entries;
      marks = length (plan_of v s o).marks;
      periods = length ps;
      rows = length (rows_of ps);
      excitation = length (excitation_of ps);
      decoded = decode_room v;
    }

-- buffers of so many bytes have as many whole elements
unfoldable pub holds : Need → Lengths → Bool
holds n l =
    every
    (leb n.entries (l.index / 8)
    ∷ leb n.marks (l.marks / 4)
    ∷ leb n.periods (l.sizes / 4)
    ∷ leb n.rows (l.rows / 2)
    ∷ leb n.excitation l.excitation
    ∷ leb n.decoded l.decoded
    ∷ [])

abbrev pub lengths_of : Buffers → Lengths
lengths_of b =
    record {
      index = length b.index;
      marks = length b.marks;
      sizes = length b.sizes;
      rows = length b.rows;
      excitation = length b.excitation;
      decoded = length b.decoded;
    }

unfoldable pub fits : Voice → Sheet → Settings → Buffers → Bool
fits v s o b = holds (need_of v s o) (lengths_of b)

-- ---- the call

-- what refuses a call apart from its buffers: 'A call itself opens the voice and reads the sheet so, then reports target ends .., then
-- marks ..', a strict one its pairs before these
unfoldable pub check_refusal : List ℕ → List ℕ → Settings → Option Refusal
check_refusal file sheet o = or_next (opening_refusal file) (or_next (sheet_refusal sheet) (read_refusal (voice_of file) (sheet_of sheet) o))

-- '.. then 13, in a call the sorted index's too'
unfoldable pub call_refusal : List ℕ → List ℕ → Settings → Buffers → Option Refusal
call_refusal file sheet o b = or_next (check_refusal file sheet o) (pick (fits (voice_of file) (sheet_of sheet) o b) None (Some ShortBuffer))

unfoldable pub summary_of : Voice → Sheet → Settings → Summary
summary_of v s o =
    let ps = periods_taken v s o in
    record {
      rate = v.header.rate;
      periods = length ps;
      samples = length (excitation_of ps);
      marks = length (plan_of v s o).marks;
      order = v.header.order;
      entries = length v.entries;
    }

-- a call's fresh state, and the state that comes with a refusal
unfoldable pub fresh_of : Voice → Settings → FilterState
fresh_of v o = fresh_state (filter_in o) v.header.order v.header.coeff_min v.header.coeff_range

unfoldable pub zero_state : FilterState
zero_state = fresh_state Fixed 0 (fin false 0 (pos 0)) (fin false 0 (pos 0))

abbrev pub refused_by : Refusal → Planned
refused_by r = record { answer = Err r; state = zero_state }

abbrev pub answer_by : Voice → Sheet → Settings → Option Refusal → Planned
answer_by v s o None = record { answer = Ok (summary_of v s o); state = fresh_of v o }
answer_by v s o (Some r) = refused_by r

unfoldable pub planned_of : List ℕ → List ℕ → Settings → Buffers → Planned
planned_of file sheet o b = answer_by (voice_of file) (sheet_of sheet) o (call_refusal file sheet o b)

-- every byte of each buffer afterwards: 'Elements beyond that remain', and a refusal leaves all
abbrev pub over_all : Buffers → Buffers → Buffers
over_all new old =
    record {
      index = over new.index old.index;
      marks = over new.marks old.marks;
      sizes = over new.sizes old.sizes;
      rows = over new.rows old.rows;
      excitation = over new.excitation old.excitation;
      decoded = over new.decoded old.decoded;
    }

abbrev pub left_by : Buffers → Buffers → Option Refusal → Buffers
left_by new old None = over_all new old
left_by new old (Some r) = old

unfoldable pub buffers_after : List ℕ → List ℕ → Settings → Buffers → Buffers
buffers_after file sheet o b = left_by (filled (voice_of file) (sheet_of sheet) o) b (call_refusal file sheet o b)

-- the number for a call's answer: 0 where it is spoken
abbrev pub called_number : Result Summary Refusal → ℕ
called_number (Ok x) = 0
called_number (Err r) = number_of r
