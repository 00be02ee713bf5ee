-- The loop over units that stores their lines.
use Rattle.std.specs.Prelude.{None}
use mathlib.Core.Path.{◌≡◌, refl, sym, ap, subst, ◌∙◌}
use mathlib.Core.Bool.{Bool}
use mathlib.Core.List.{List, [], ◌∷◌}
use Prim.Native.Nat.{ℕ, suc, ◌+◌, ◌*◌, ◌^◌, ◌≤◌, ◌<◌}
use native.Mathlib.Omega.{arith}
use lib.ListN.{length, drop}
use lib.Seq.{sets, length-sets, length-take-le}
use Rattle.base.specs.Buffers.{flat}
use Rattle.base.proofs.BoundLaws.{Each}
use Rattle.base.proofs.BufferLaws.{flat_append, sets-append}
use Rattle.voice.specs.Voice.{Voice, voice_of}
use Rattle.sheet.specs.Sheet.{sheet_of}
use Rattle.sheet.proofs.SheetLaws.{sheet-few}
use Rattle.units.specs.declared.Selection.{Selection}
use Rattle.units.specs.declared.Unit.{Unit}
use Rattle.units.specs.declared.UnitWalk.{UnitWalk}
use Rattle.units.specs.Units.{limit, end_refusal}
use Rattle.units.specs.Walking.{units_left, StartsUnits}
use Rattle.marks.specs.Checking.{last_of}
use Rattle.marks.specs.Rising.{Rising}
use Rattle.excitation.specs.Shares.{share_count, shares_from}
use Rattle.excitation.proofs.ShareLaws.{rest-rises, share-most}
use Rattle.taking.proofs.UnitLaws.{each_first}
use Rattle.filling.specs.Filling.{join_unit, join_units}
use Rattle.filling.proofs.TakeLaws.{join-none, join_more, low_first}
use Rattle.reporting.specs.declared.Reached.{Reached}
use Rattle.reporting.specs.Report.{Line, lines_of_marks, lines_of_share, line_bytes}
use Rattle.reporting.specs.Reporting.{marks_ahead, unit_marks, CanReport, Reports, units_report, CanReportUnits}
use Rattle.reporting.proofs.NumberLaws.{LowNumbers, low-numbers, units-numbered}
use Rattle.reporting.proofs.LineLaws.{length-lines}

-- the lines of units, by the marks that are left after one
abbrev lines_from : Bool → ℕ → ℕ → List Unit → List ℕ → List Line
lines_from natural end mark us ms = flat lines_of_share (shares_from natural end mark us ms)

pub marks-many : (u : Unit) (mark : ℕ) (ms : List ℕ) → length (lines_of_marks u mark ms) ≡ length ms
unfolding lines_of_marks
marks-many u mark [] = refl
marks-many u mark (m ∷ ms) = ap suc (marks-many u m ms)

-- ---- one turn

-- the lines of the units us are still to store; `all` is what will be there then
pub record UnitsReporting (v : Voice) (natural : Bool) (us : List Unit) (end count : ℕ) (at : Reached) (lines all : List ℕ) : Type 0 where
  pub low : end_refusal (join_units natural v end us) ≡ None
  pub end_low : end ≤ limit
  pub numbers : Each LowNumbers us
  pub long : length lines ≡ 16 * count
  pub within : at.taken ≤ count
  pub mark_low : at.mark < 2 ^ 32
  pub rising : Rising at.mark (marks_ahead count lines at.taken)
  pub filled : sets lines (16 * at.taken) (flat line_bytes (lines_from natural end at.mark (join_units natural v end us) (marks_ahead count lines at.taken))) ≡ all

-- before the first unit
pub reporting-first : (natural : Bool) (file index sheet : List ℕ) (by : Selection) (count : ℕ) (lines : List ℕ) (w : UnitWalk)
    → CanReportUnits natural file index sheet by count lines → StartsUnits sheet by.places.segments.count w
    → UnitsReporting (voice_of file) natural (units_left (voice_of file) by.fold sheet by.places.segments.count w) 0 count (record { taken = 0; mark = 0 }) lines
    (sets lines 0 (flat line_bytes (units_report natural file sheet by (marks_ahead count lines 0))))
reporting-first natural file index sheet by count lines w h s =
    let v = voice_of file in
    let all = sets lines 0 (flat line_bytes (units_report natural file sheet by (marks_ahead count lines 0))) in
    let n = units-numbered v by.fold (sheet_of sheet).segments in
    subst (λ (us : List Unit). UnitsReporting v natural us 0 count (record { taken = 0; mark = 0 }) lines all) (s.units v by.fold)
    (record {
      low = h.low;
      end_low = omega arith;
      numbers = low-numbers _ 0 _ (sheet-few sheet) n;
      long = h.long;
      within = omega arith;
      mark_low = omega arith;
      rising = h.rising;
      filled = refl;
    })

-- after the last one
pub reporting-done : (v : Voice) (natural : Bool) (us : List Unit) (end count : ℕ) (at : Reached) (lines all : List ℕ) → UnitsReporting v natural us end count at lines all → us ≡ [] → lines ≡ all
unfolding shares_from flat
reporting-done v natural us end count at lines all k e =
    ap (λ (l : List Unit). sets lines (16 * at.taken) (flat line_bytes (lines_from natural end at.mark l (marks_ahead count lines at.taken))))
    (sym (ap (join_units natural v end) e ∙ join-none natural v end))
    ∙ k.filled

module _ (v : Voice) (natural : Bool) (us : List Unit) (end count : ℕ) (at : Reached) (lines all : List ℕ) (k : UnitsReporting v natural us end count at lines all)
    (u : Unit) (rest : List Unit) (e : us ≡ u ∷ rest) (x : Unit) (q : x ≡ join_unit natural v end u) where
  abbrev after : List Unit
  after = join_units natural v x.target_end rest

  abbrev ms : List ℕ
  ms = marks_ahead count lines at.taken

  join_is : join_units natural v end us ≡ x ∷ after
  join_is =
      ap (join_units natural v end) e ∙ join_more natural v end u rest
      ∙ ap (λ (y : Unit). y ∷ join_units natural v y.target_end rest) (sym q)

  lows : (x.target_end ≤ limit) × (end_refusal after ≡ None)
  lows = low_first x after (sym (ap end_refusal join_is) ∙ k.low)

  numbers-are : LowNumbers u × Each LowNumbers rest
  numbers-are = each_first (subst (Each LowNumbers) e k.numbers)

  pub can-report : u.first_period ≤ u.last_period → CanReport x count at lines
  can-report i =
      let n = numbers-are.0 in
      let pair : x.pair ≡ u.pair = ap (λ (y : Unit). y.pair) q in
      let half : x.half ≡ u.half = ap (λ (y : Unit). y.half) q in
      record {
        long = k.long;
        within = k.within;
        mark_low = k.mark_low;
        pair_low = omega (arith, pair, n.0);
        half_low = omega (arith, half, n.1);
        ordered = subst (λ (y : Unit). y.first_period ≤ y.last_period) (sym q) i;
        rising = k.rising;
      }

  -- the marks that the unit takes, and those that are left then
  abbrev n : ℕ
  n = share_count natural x ms

  abbrev own : List ℕ
  own = unit_marks natural x ms

  abbrev left : List ℕ
  left = drop n ms

  -- the unit's own lines, then those of the units after it
  filled_is : sets (sets lines (16 * at.taken) (flat line_bytes (lines_of_marks x at.mark own))) (16 * (at.taken + n))
      (flat line_bytes (lines_from natural x.target_end (last_of at.mark own) after left)) ≡ all
  unfolding shares_from flat lines_of_share
  filled_is =
      let its = lines_of_marks x at.mark own in
      let others = lines_from natural x.target_end (last_of at.mark own) after left in
      let m : length its ≡ n = marks-many x at.mark own ∙ length-take-le n ms (share-most natural x ms) in
      let l = length-lines its in
      let place : 16 * (at.taken + n) ≡ 16 * at.taken + length (flat line_bytes its) = omega arith in
      ap (λ (i : ℕ). sets (sets lines (16 * at.taken) (flat line_bytes its)) i (flat line_bytes others)) place
      ∙ sym (sets-append lines (16 * at.taken) (flat line_bytes its) (flat line_bytes others))
      ∙ ap (sets lines (16 * at.taken)) (sym (flat_append line_bytes its others))
      ∙ ap (λ (l : List Unit). sets lines (16 * at.taken) (flat line_bytes (lines_from natural end at.mark l ms))) (sym join_is)
      ∙ k.filled

  pub reporting-next : (r : Reached) (lines₁ : List ℕ) → Reports natural x count at r lines lines₁ → UnitsReporting v natural rest x.target_end count r lines₁ all
  reporting-next r lines₁ t =
      record {
        low = lows.1;
        end_low = lows.0;
        numbers = numbers-are.1;
        long = ap length t.lines ∙ simp length-sets k.long;
        within = t.within;
        mark_low = t.mark_low;
        rising = next-rising;
        filled = next-filled;
      }
    where
      next-rising : Rising r.mark (marks_ahead count lines₁ r.taken)
      next-rising =
          let a = t.mark in
          let b = t.ahead in
          rw (a, b) (rest-rises n at.mark ms k.rising)

      -- the lines of the units after it, from a line and a mark on, over some lines
      over_lines : List ℕ → ℕ → ℕ → List ℕ → List ℕ
      over_lines l taken mark ms = sets l (16 * taken) (flat line_bytes (lines_from natural x.target_end mark after ms))

      next-filled : over_lines lines₁ r.taken r.mark (marks_ahead count lines₁ r.taken) ≡ all
      next-filled =
          ap (over_lines lines₁ r.taken r.mark) t.ahead
          ∙ ap (λ (m : ℕ). over_lines lines₁ r.taken m left) t.mark
          ∙ ap (λ (m : ℕ). over_lines lines₁ m (last_of at.mark own) left) t.taken
          ∙ ap (λ (l : List ℕ). over_lines l (at.taken + n) (last_of at.mark own) left) t.lines
          ∙ filled_is
