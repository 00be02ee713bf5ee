-- Document 02, A2: 'A period report for the marking program'.
use Rattle.std.specs.Prelude.{Bool, List, [], ◌∷◌, ℕ, ◌-◌, ◌*◌, leb, length, Err, None, Ok, Option, Result, Some}
use Rattle.base.specs.Choice.{pick}
use Rattle.base.specs.Lists.{or_next}
use Rattle.base.specs.Buffers.{flat, unless_refused}
use Rattle.base.specs.Bytes.{bytes_of}
use Rattle.refusal.specs.declared.Refusal.{Refusal}
use Rattle.refusal.specs.declared.Refusal.TheVariants.{ShortBuffer}
use Rattle.voice.specs.Voice.{Voice, voice_of}
use Rattle.sheet.specs.Sheet.{Sheet, sheet_of}
use Rattle.units.specs.declared.Unit.{Unit}
use Rattle.excitation.specs.Shares.{Share, shares}
use Rattle.call.specs.declared.Settings.{Settings}
use Rattle.call.specs.Call.{plan_of, is_simple}
use Rattle.call.specs.Buffers.{check_refusal}

-- ---- the report

-- 'one line a period': the pair and the half of the unit that took its mark, its 'first sample counted from 0', and its size. The period's
-- number is the line's place in the report.
pub record Line : Type 0 where
  pub pair : ℕ
  pub half : ℕ
  pub first : ℕ
  pub size : ℕ

-- for some marks that a unit took: a period begins at the mark before its own
unfoldable pub lines_of_marks : Unit → ℕ → List ℕ → List Line
lines_of_marks u mark [] = []
lines_of_marks u mark (m ∷ ms) = record { pair = u.pair; half = u.half; first = mark; size = m - mark } ∷ lines_of_marks u m ms

-- 'The pair and half belong to the unit that took the mark.'
unfoldable pub lines_of_share : Share → List Line
lines_of_share s = lines_of_marks s.unit s.mark s.marks

-- 'Lines come in period order'
unfoldable pub lines_of : Bool → List Unit → List ℕ → List Line
lines_of natural us ms = flat lines_of_share (shares natural us ms)

-- the report of a call
unfoldable pub report_of : Voice → Sheet → Settings → List Line
report_of v s o = lines_of (is_simple o.join) (plan_of v s o).units (plan_of v s o).marks

-- ---- in a lent buffer

-- a line: pair, half, first sample and size, four bytes each, little-endian
unfoldable pub line_bytes : Line → List ℕ
line_bytes l = flat (bytes_of 4) (l.pair ∷ l.half ∷ l.first ∷ l.size ∷ [])

unfoldable pub report_bytes : Voice → Sheet → Settings → List ℕ
report_bytes v s o = flat line_bytes (report_of v s o)

-- 13 where n bytes have no room for the lines
abbrev pub short_lines : ℕ → ℕ → Option Refusal
short_lines periods n = pick (leb (16 * periods) n) None (Some ShortBuffer)

-- 1 to 12, 16 and 17 as the call has them, then 13 for a buffer of n bytes
unfoldable pub refusal_of_report : List ℕ → List ℕ → Settings → ℕ → Option Refusal
refusal_of_report file sheet o n = or_next (check_refusal file sheet o) (short_lines (length (report_of (voice_of file) (sheet_of sheet) o)) n)

-- why it is refused, or how many lines there are
abbrev pub answer_reported : ℕ → Option Refusal → Result ℕ Refusal
answer_reported count None = Ok count
answer_reported count (Some r) = Err r

unfoldable pub reported_of : List ℕ → List ℕ → Settings → ℕ → Result ℕ Refusal
reported_of file sheet o n = answer_reported (length (report_of (voice_of file) (sheet_of sheet) o)) (refusal_of_report file sheet o n)

-- every byte of the lines afterwards
unfoldable pub lines_left : List ℕ → List ℕ → Settings → List ℕ → List ℕ
lines_left file sheet o old = unless_refused (refusal_of_report file sheet o (length old)) (report_bytes (voice_of file) (sheet_of sheet) o) old
