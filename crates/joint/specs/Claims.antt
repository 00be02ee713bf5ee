-- Document 02, A8: what changed, and what was kept.
use Rattle.std.specs.Prelude.{◌≡◌, Bool, true, false, List, map, ℕ, ◌<◌, Float, length, get_or}
use Rattle.voice.specs.Voice.{Voice}
use Rattle.sheet.specs.Sheet.{Sheet}
use Rattle.marks.specs.Rising.{Rising}
use Rattle.excitation.specs.Taken.{Period, sizes_of, rows_of, excitation_of, decoded_over}
use Rattle.lpc.specs.declared.ResynthType.{ResynthType}
use Rattle.lpc.specs.State.{periods_by}
use Rattle.call.specs.declared.Settings.{Settings}
use Rattle.call.specs.Call.{is_simple, periods_taken, parts_of, periods_of}
use Rattle.reporting.specs.Report.{Line, report_of}
use Rattle.reporting.specs.Claims.{pairs, line_sizes, halves}
use Rattle.joint.specs.OldRule.{old_periods, old_samples, old_report}
use Rattle.joint.specs.EmptyHeads.{changed, AtJoint}

-- two lists of one length that are the same outside of the places where a list says yes
pub record SameOutside {A : Type 0} (listed : List Bool) (old new : List A) : Type 0 where
  pub many : length new ≡ length old
  pub same : (d : A) (i : ℕ) → get_or listed i false ≡ false → get_or new i d ≡ get_or old i d

-- periods taken: 'no sample and no size moves'. Nor does a byte of the excitation or of the decode buffer; and there are as many periods and
-- row values as before, so a call has the summary that it had, and needs the room that it needed.
pub record Kept (v : Voice) (listed : List Bool) (old new : List Period) : Type 0 where
  pub periods : SameOutside listed old new
  -- those on the list have size 0
  pub empty : (i : ℕ) → get_or listed i false ≡ true → get_or (sizes_of new) i 0 ≡ 0
  pub sizes : sizes_of new ≡ sizes_of old
  pub rows : length (rows_of new) ≡ length (rows_of old)
  pub excitation : excitation_of new ≡ excitation_of old
  pub decoded : (front : List ℕ) → decoded_over v front new ≡ decoded_over v front old
  -- by every filter and every scale
  pub samples : (t : ResynthType) (least range : Float) → periods_by t least range (parts_of v new) ≡ periods_by t least range (parts_of v old)

-- lines of a report: on the list the pair and the half alone differ
pub record KeptLines (listed : List Bool) (old new : List Line) : Type 0 where
  pub lines : SameOutside listed old new
  pub firsts : map (λ (l : Line). l.first) new ≡ map (λ (l : Line). l.first) old
  pub sizes : line_sizes new ≡ line_sizes old
  -- and there they do: the line was that of a unit before
  pub moved : (i : ℕ) → i < length new → get_or listed i false ≡ true → get_or (halves old) i 0 < get_or (halves new) i 0

-- all of it, of a call, whose units and marks are the same by both rules
pub record JointKept (v : Voice) (s : Sheet) (o : Settings) : Type 0 where
  pub periods : Kept v (changed v s o) (old_periods v s o) (periods_taken v s o)
  pub samples : periods_of v s o ≡ old_samples v s o
  pub lines : KeptLines (changed v s o) (old_report v s o) (report_of v s o)
  -- the list says yes there, and there alone
  pub listed : (i : ℕ) → (get_or (changed v s o) i false ≡ true → AtJoint v s o i) × (AtJoint v s o i → get_or (changed v s o) i false ≡ true)
  -- 'report lines and coefficient rows of zero-size periods at the head of a later unit, and nothing else'
  pub period : (d : Period) (i : ℕ) → (get_or (periods_taken v s o) i d ≡ get_or (old_periods v s o) i d → ⊥) → AtJoint v s o i
  pub line : (d : Line) (i : ℕ) → (get_or (report_of v s o) i d ≡ get_or (old_report v s o) i d → ⊥) → AtJoint v s o i
  -- nothing at all in the modified join and in join none
  pub others : is_simple o.join ≡ false → (periods_taken v s o ≡ old_periods v s o) × (report_of v s o ≡ old_report v s o)
  -- 'the marking program may rely on pairs that never fall in the report'
  pub rising : Rising 1 (pairs (report_of v s o))
