-- The marks that a join stores and the periods that it takes by them.
use Rattle.std.specs.Prelude.{None}
use mathlib.Core.Path.{◌≡◌, refl, sym, ap, subst, ◌∙◌}
use mathlib.Core.Bool.{Bool}
use mathlib.Core.List.{List, [], ◌∷◌}
use Prim.Native.Nat.{ℕ, zero, suc, ◌-◌, ◌*◌, ◌^◌, ◌≤◌, ◌<◌}
use native.Mathlib.Omega.{arith}
use borrow.Author.Tests.{leb-true, le-leb}
use lib.ListN.{length, take, get_or, length-take}
use lib.Seq.{take_all}
use Rattle.base.specs.Buffers.{over, flat}
use Rattle.base.specs.Bytes.{bytes_of, elements}
use Rattle.base.proofs.ListLaws.{every-at, next-none}
use Rattle.base.proofs.BoundLaws.{Each, nil, cons}
use Rattle.base.proofs.BufferLaws.{take-over, length-flat}
use Rattle.base.proofs.ByteLaws.{length-bytes_of, elements-flat}
use Rattle.voice.specs.Header.{good_numbers, good_header}
use Rattle.voice.specs.Voice.{Voice, places_of, voice_at, voice_of}
use Rattle.voice.specs.Opening.{opening_refusal}
use Rattle.voice.proofs.OpeningLaws.{passed}
use Rattle.sheet.specs.declared.Target.{Target}
use Rattle.sheet.specs.Sheet.{SegmentRead, sheet_of}
use Rattle.units.specs.declared.Unit.{Unit}
use Rattle.units.specs.declared.Selection.{Selection}
use Rattle.units.specs.Selecting.{folded}
use Rattle.units.specs.Units.{limit, units_of, end_refusal}
use Rattle.marks.specs.PitchMarks.{most_marks}
use Rattle.marks.specs.NaturalMarks.{period_count, place_after_unit, natural_marks, natural_units}
use Rattle.marks.specs.Rising.{Rising}
use Rattle.marks.proofs.LimitLaws.{Low}
use Rattle.marks.proofs.RiseLaws.{natural-rises, marks-rise}
use Rattle.marks.proofs.JoinLaws.{UnitsStoring, units-first, units-low, units-storing}
use Rattle.excitation.specs.Taken.{Period}
use Rattle.excitation.proofs.ShareLaws.{taken_none, taken-from}
use Rattle.call.specs.declared.JoinType.{JoinType}
use Rattle.call.specs.declared.JoinType.TheVariants.{None, Simple, ModifiedLpc}
use Rattle.call.specs.Call.{simple_plan, modified_plan, plan_by, is_simple}
use Rattle.call.proofs.FilledLaws.{by-low}
use Rattle.filling.specs.Filling.{selected, planned, join_units, PeriodBuffers, fill_periods, HasRoom, taken_from}
use Rattle.filling.specs.Filling.{units_take, CanTakeUnits, join_takes, CanTakePeriods, CanJoin}
use Rattle.filling.proofs.PeriodLaws.{fill_none}

-- ---- the marks of a join

-- no natural end is above the limit where no mark is
natural-low : (v : Voice) (place left : ℕ) (us : List Unit) (d : List ℕ) (i : ℕ) (all : List ℕ) → UnitsStoring v place left us d i all → end_refusal (natural_units v place us) ≡ None
unfolding natural_units end_refusal
natural-low v place left [] d i all k = refl
natural-low v place left (u ∷ us) d i all k =
    let l = le-leb (place_after_unit v place u) limit (units-low v place left u us d i all k) in
    rw l (natural-low v (place_after_unit v place u) (left - period_count u) us _ _ all (units-storing v place left u us d i all k _ refl))

pub open-rate : (file : List ℕ) → opening_refusal file ≡ None → (1 ≤ (voice_of file).header.rate) × ((voice_of file).header.rate ≤ 48000)
unfolding good_numbers good_header voice_of voice_at places_of
open-rate file e = let numbers = every-at _ (passed file e).header 1 in (leb-true 1 _ (every-at _ numbers 2), leb-true _ 48000 (every-at _ numbers 3))

module _ (v : Voice) (ss : List SegmentRead) (ts : List Target) where
  pub join-rises : (j : JoinType) → 1 ≤ v.header.rate → v.header.rate ≤ 48000 → Rising 0 (plan_by j v ss ts).marks
  unfolding plan_by simple_plan modified_plan
  join-rises None h l = tt
  join-rises Simple h l = natural-rises v 0 (units_of v ss)
  join-rises ModifiedLpc h l = marks-rise v.header.rate h (omega arith) ts

  pub join-units : (j : JoinType) → 2 ≤ length (plan_by j v ss ts).marks → (plan_by j v ss ts).units ≡ join_units (is_simple j) v 0 (units_of v ss)
  unfolding plan_by simple_plan modified_plan
  join-units None h = absurd (omega arith)
  join-units Simple h = refl
  join-units ModifiedLpc h = refl

  pub join-low : (j : JoinType) → 2 ≤ length (plan_by j v ss ts).marks → (plan_by j v ss ts).refusal ≡ None → end_refusal (join_units (is_simple j) v 0 (units_of v ss)) ≡ None
  unfolding plan_by simple_plan modified_plan
  join-low None h e = absurd (omega arith)
  join-low Simple h e =
      let ms = natural_marks v 0 (units_of v ss) in
      let l = length-flat (bytes_of 4) 4 (length-bytes_of 4) ms in
      natural-low v 0 most_marks (units_of v ss) (flat (bytes_of 4) ms) 0 _ (units-first v (units_of v ss) (flat (bytes_of 4) ms) e (omega arith))
  join-low ModifiedLpc h e = (next-none (end_refusal (units_of v ss)) _ e).0

-- ---- stored and read again

pub low_below : (ms : List ℕ) → Each Low ms → (i : ℕ) → get_or ms i 0 < 256 ^ 4
low_below [] nil i = omega arith
low_below (m ∷ ms) (cons l e) zero = omega arith
low_below (m ∷ ms) (cons l e) (suc i) = low_below ms e i

module _ (join : JoinType) (file index sheet : List ℕ) (by : Selection) (count : ℕ) (marks : List ℕ) (b : PeriodBuffers) (h : CanTakePeriods join file index sheet by count marks b) where
  abbrev v : Voice
  v = voice_of file

  abbrev ms : List ℕ
  ms = (planned join file sheet by).marks

  pub marks-within : 4 * count ≤ length marks
  marks-within =
      let a : length (take (4 * count) marks) ≡ 4 * length ms = ap length h.stored ∙ length-flat (bytes_of 4) 4 (length-bytes_of 4) ms in
      let l = length-take (4 * count) marks in
      omega (arith, h.counted)

  -- fewer than two marks
  pub periods-none : count < 2 → b ≡ fill_periods v 0 0 (join_takes join file sheet by) b
  periods-none l =
      sym (ap (λ (ps : List Period). fill_periods v 0 0 ps b) (taken_none (is_simple join) (planned join file sheet by).units ms v (subst (λ (n : ℕ). n < 2) h.counted l)) ∙ fill_none v 0 0 b)

  module _ (l : 2 ≤ count) where
    two : 2 ≤ length ms
    two = subst (λ (n : ℕ). 2 ≤ n) h.counted l

    read_back : elements 4 (take (4 * count) marks) ≡ ms
    read_back = ap (elements 4) h.stored ∙ elements-flat 4 ms (omega arith) (low_below ms (by-low join v (folded by.fold (sheet_of sheet).segments) (sheet_of sheet).targets h.spoken))

    same-periods : units_take (is_simple join) file sheet by (take (4 * count) marks) ≡ join_takes join file sheet by
    same-periods =
        ap (taken_from (is_simple join) v 0 0 (join_units (is_simple join) v 0 (selected file sheet by))) read_back
        ∙ ap (λ (us : List Unit). taken_from (is_simple join) v 0 0 us ms) (sym (join-units v (folded by.fold (sheet_of sheet).segments) (sheet_of sheet).targets join two))
        ∙ sym (taken-from (is_simple join) (planned join file sheet by).units ms v two)

    can-units : CanTakeUnits (is_simple join) file index sheet by (take (4 * count) marks) b
    can-units =
        let ss = folded by.fold (sheet_of sheet).segments in
        let r = open-rate file h.selects.searchable.opened.fit in
        let w = h.two in
        record {
          selects = h.selects;
          some = omega arith;
          low = join-low v ss (sheet_of sheet).targets join two h.spoken;
          rising = subst (λ (l : List ℕ). Rising 0 l) (sym read_back) (join-rises v ss (sheet_of sheet).targets join r.0 r.1);
          room = subst (λ (ps : List Period). HasRoom v 0 0 ps b) (sym same-periods) h.room;
        }

    module _ (natural : Bool) (q : natural ≡ is_simple join) where
      pub units-able : CanTakeUnits natural file index sheet by (take (4 * count) marks) b
      units-able = subst (λ (t : Bool). CanTakeUnits t file index sheet by (take (4 * count) marks) b) (sym q) can-units

      pub units-taken : fill_periods v 0 0 (units_take natural file sheet by (take (4 * count) marks)) b ≡ fill_periods v 0 0 (join_takes join file sheet by) b
      units-taken = ap (λ (t : Bool). fill_periods v 0 0 (units_take t file sheet by (take (4 * count) marks)) b) q ∙ ap (λ (ps : List Period). fill_periods v 0 0 ps b) same-periods

-- all marks are stored
pub all-marks : (join : JoinType) (file index sheet : List ℕ) (by : Selection) (count n : ℕ) (b : PeriodBuffers) → CanJoin join file index sheet by count n b
    → (d : List ℕ) → let ms = (planned join file sheet by).marks in over (flat (bytes_of 4) (take count ms)) d ≡ over (flat (bytes_of 4) ms) d
all-marks join file index sheet by count n b h d =
    ap (λ (ms : List ℕ). over (flat (bytes_of 4) ms) d) (take_all count (planned join file sheet by).marks (omega (arith, h.counted)))

-- the marks that were stored
pub can-periods : (join : JoinType) (file index sheet : List ℕ) (by : Selection) (count : ℕ) (d marks : List ℕ) (b : PeriodBuffers)
    → CanJoin join file index sheet by count (length d) b → marks ≡ over (flat (bytes_of 4) (planned join file sheet by).marks) d → CanTakePeriods join file index sheet by count marks b
can-periods join file index sheet by count d marks b h e =
    let ms = (planned join file sheet by).marks in
    record {
      selects = h.marked.selects;
      two = h.marked.two;
      spoken = h.marked.spoken;
      counted = h.counted;
      stored = ap (take (4 * count)) e ∙ take-over (flat (bytes_of 4) ms) d (4 * count) (length-flat (bytes_of 4) 4 (length-bytes_of 4) ms ∙ ap (λ (n : ℕ). 4 * n) (sym h.counted));
      room = h.room;
    }
