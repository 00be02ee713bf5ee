-- Inner: What storing a report's lines asks, and what it leaves. The marks taken stand in the last quarter of the lines until a line is
-- stored over them.
use Rattle.std.specs.Prelude.{◌≡◌, Bool, List, ℕ, ◌+◌, ◌*◌, ◌^◌, ◌≤◌, ◌<◌, length, take, drop, None}
use Rattle.std.proofs.lemmas.List.Edits.{sets}
use Rattle.base.specs.Buffers.{flat}
use Rattle.base.specs.Bytes.{elements}
use Rattle.voice.specs.Voice.{voice_of}
use Rattle.units.specs.declared.Selection.{Selection}
use Rattle.units.specs.declared.Unit.{Unit}
use Rattle.units.specs.Units.{end_refusal}
use Rattle.marks.specs.Checking.{last_of}
use Rattle.marks.specs.Rising.{Rising}
use Rattle.excitation.specs.Shares.{share_count, shares_from}
use Rattle.call.specs.declared.JoinType.{JoinType}
use Rattle.call.specs.Call.{is_simple}
use Rattle.filling.specs.Filling.{selected, planned, CanSelect, join_units}
use Rattle.reporting.specs.declared.Reached.{Reached}
use Rattle.reporting.specs.Report.{Line, lines_of_marks, lines_of_share, lines_of, line_bytes}

-- of the `count` marks at the end of the lines those from number `taken` on
abbrev pub marks_ahead : ℕ → List ℕ → ℕ → List ℕ
marks_ahead count lines taken = drop (3 * count + taken) (elements 4 lines)

-- those of them that a unit takes
abbrev pub unit_marks : Bool → Unit → List ℕ → List ℕ
unit_marks natural u ms = take (share_count natural u ms) ms

-- ---- one unit

-- room for all lines, marks that do not fall, numbers that fit four bytes, and periods in their order
pub record CanReport (u : Unit) (count : ℕ) (at : Reached) (lines : List ℕ) : Type 0 where
  pub long : length lines ≡ 16 * count
  pub within : at.taken ≤ count
  pub mark_low : at.mark < 2 ^ 32
  pub pair_low : u.pair < 2 ^ 32
  pub half_low : u.half < 2 ^ 32
  pub ordered : u.first_period ≤ u.last_period
  pub rising : Rising at.mark (marks_ahead count lines at.taken)

-- how far the marks are reported then, those that are left, and the lines before and after
pub record Reports (natural : Bool) (u : Unit) (count : ℕ) (at r : Reached) (lines₀ lines₁ : List ℕ) : Type 0 where
  pub within : r.taken ≤ count
  pub mark_low : r.mark < 2 ^ 32
  pub taken : r.taken ≡ at.taken + share_count natural u (marks_ahead count lines₀ at.taken)
  pub mark : r.mark ≡ last_of at.mark (unit_marks natural u (marks_ahead count lines₀ at.taken))
  pub ahead : let ms = marks_ahead count lines₀ at.taken in marks_ahead count lines₁ r.taken ≡ drop (share_count natural u ms) ms
  pub lines : lines₁
      ≡ sets lines₀ (16 * at.taken) (flat line_bytes (lines_of_marks u at.mark (unit_marks natural u (marks_ahead count lines₀ at.taken))))

-- ---- all units

-- the lines of the units of a join, by some marks
abbrev pub units_report : Bool → List ℕ → List ℕ → Selection → List ℕ → List Line
units_report natural file sheet by ms =
    flat lines_of_share (shares_from natural 0 0 (join_units natural (voice_of file) 0 (selected file sheet by)) ms)

-- there are units, no target end is above the limit, and the marks at the end of the lines do not fall
pub record CanReportUnits (natural : Bool) (file index sheet : List ℕ) (by : Selection) (count : ℕ) (lines : List ℕ) : Type 0 where
  pub selects : CanSelect file index sheet by
  pub some : 0 < by.places.segments.count
  pub low : end_refusal (join_units natural (voice_of file) 0 (selected file sheet by)) ≡ None
  pub long : length lines ≡ 16 * count
  pub rising : Rising 0 (marks_ahead count lines 0)

-- ---- a join

abbrev pub join_report : JoinType → List ℕ → List ℕ → Selection → List Line
join_report join file sheet by = lines_of (is_simple join) (planned join file sheet by).units (planned join file sheet by).marks

-- two segments or more, marks that are not refused, and n bytes for all of its lines, of which there is one at least
pub record CanReportJoin (join : JoinType) (file sheet : List ℕ) (by : Selection) (count n : ℕ) : Type 0 where
  pub two : 2 ≤ by.places.segments.count
  pub spoken : (planned join file sheet by).refusal ≡ None
  pub counted : count ≡ length (join_report join file sheet by)
  pub some : 0 < count
  pub long : n ≡ 16 * count
