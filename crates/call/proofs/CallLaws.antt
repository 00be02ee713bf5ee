-- The periods of a call head those of a call on an extended voice with a longer sheet.
use Rattle.std.specs.Prelude.{None}
use mathlib.Core.Path.{◌≡◌, refl, sym, ap, ◌∙◌}
use mathlib.Core.Bool.{Bool, true, false}
use mathlib.Core.List.{List, [], ◌∷◌, map, map-append}
use Prim.Native.Nat.{ℕ, ◌≤◌}
use native.Mathlib.Omega.{arith}
use borrow.Author.Tests.{ltb-false, le-ltb}
use lib.Dec.{ltb}
use lib.Ieee.{Float}
use lib.ListN.{length, length-append}
use lib.Seq.{take_at, drop_at}
use Rattle.base.specs.Buffers.{flat}
use Rattle.base.specs.Lists.{Heads}
use Rattle.base.proofs.ListLaws.{heads-nil, next-none}
use Rattle.base.proofs.BoundLaws.{cons}
use Rattle.voice.specs.Voice.{Voice}
use Rattle.voice.specs.Extends.{Extends}
use Rattle.voice.proofs.OpeningLaws.{Opens}
use Rattle.voice.proofs.PeriodLaws.{Agree, agrees}
use Rattle.sheet.specs.declared.Target.{Target}
use Rattle.sheet.specs.Sheet.{SegmentRead, Sheet}
use Rattle.sheet.specs.Begins.{Begins}
use Rattle.sheet.proofs.SheetLaws.{Refers}
use Rattle.units.specs.declared.Unit.{Unit}
use Rattle.units.specs.Selecting.{folded, first_tried_found}
use Rattle.units.specs.Units.{units_of, end_refusal}
use Rattle.units.proofs.UnitLaws as units
use Rattle.units.proofs.UnitLaws.{Within}
use Rattle.marks.proofs.MarkLaws as marks
use Rattle.excitation.specs.Taken.{Period, taken, sizes_of, rows_of, excitation_of, total}
use Rattle.excitation.proofs.TakenLaws.{taken-append, taken-same}
use Rattle.excitation.proofs.SizedLaws.{Sized, taken-sized, sizes-total}
use Rattle.lpc.specs.declared.ResynthType.{ResynthType}
use Rattle.lpc.specs.Filter.{Part, cut}
use Rattle.lpc.specs.State.{periods_by}
use Rattle.lpc.proofs.FilterLaws.{by_append}
use Rattle.call.specs.declared.JoinType.{JoinType}
use Rattle.call.specs.declared.JoinType.TheVariants.{None, Simple, ModifiedLpc}
use Rattle.call.specs.declared.Settings.{Settings}
use Rattle.call.specs.Call.{Plan, empty_plan, simple_plan, modified_plan, plan_by, plan_of, is_simple, periods_taken, filter_in, periods_of}

-- ---- what a call fills, cut up again, is the periods taken

abbrev pub part_of : Period → Part
part_of p = record { row = p.row; bytes = p.bytes }

pub cut-filled : (order : ℕ) (ps : List Period) → Sized order ps → cut order (sizes_of ps) (rows_of ps) (excitation_of ps) ≡ map part_of ps
unfolding cut sizes_of rows_of excitation_of flat
cut-filled order [] s = refl
cut-filled order (p ∷ ps) (cons (l, m) s) =
    let rows = flat (λ (p : Period). p.row) ps in
    let bytes = flat (λ (p : Period). p.bytes) ps in
    rw (take_at p.row rows order l, drop_at p.row rows order l, take_at p.bytes bytes p.size m, drop_at p.bytes bytes p.size m)
    (ap (λ (q : List Part). part_of p ∷ q) (cut-filled order ps s))

pub periods-sized : (v : Voice) (s : Sheet) (o : Settings) → Sized v.header.order (periods_taken v s o)
unfolding periods_taken
periods-sized v s o = taken-sized (is_simple o.join) v (plan_of v s o).units (plan_of v s o).marks

pub taken-total : (v : Voice) (s : Sheet) (o : Settings) → total (sizes_of (periods_taken v s o)) ≡ length (excitation_of (periods_taken v s o))
taken-total v s o = sizes-total v.header.order (periods_taken v s o) (periods-sized v s o)

-- the samples of taken periods
unfoldable pub sound_of : ResynthType → Float → Float → List Period → List (List ℕ)
sound_of t least range ps = periods_by t least range (map part_of ps)

pub sound-is : (v : Voice) (s : Sheet) (o : Settings) → periods_of v s o ≡ sound_of (filter_in o) v.header.coeff_min v.header.coeff_range (periods_taken v s o)
unfolding periods_of sound_of
sound-is v s o = ap (periods_by (filter_in o) v.header.coeff_min v.header.coeff_range) (cut-filled v.header.order (periods_taken v s o) (periods-sized v s o))

sound-heads : (t : ResynthType) (least range : Float) (ps qs : List Period) → Heads ps qs → Heads (sound_of t least range ps) (sound_of t least range qs)
unfolding sound_of
sound-heads t least range ps qs h = rw (h.whole, map-append part_of ps h.more) (by_append t least range (map part_of ps) (map part_of h.more))

same-scales : (t : ResynthType) (m m' r r' : Float) (ps qs : List Period) → m ≡ m' → r ≡ r' → ps ≡ qs → sound_of t m r ps ≡ sound_of t m' r' qs
same-scales t m m' r r' ps qs a b c = cc

-- ---- the same sheet, on a voice that extends another

-- fewer than two segments make an empty plan
abbrev pub two_segments : Bool → Plan → Plan
two_segments t p = elim t [ true ↦ empty_plan | false ↦ p ]

module _ (v w : Voice) (x : Extends w v) (a : Opens v) (b : Opens w) (s : Sheet) (o : Settings) (found : first_tried_found v o.fold s.segments ≡ true) where
  abbrev ss : List SegmentRead
  ss = folded o.fold s.segments

  abbrev n : ℕ
  n = v.header.frames

  same-periods : Agree v w v.header.frames
  same-periods = agrees v w x a.offsets_rise

  us-same : units_of w ss ≡ units_of v ss
  us-same = units.units-same v w x a.entries_end b.names_differ o.fold s.segments found

  us-within : Within n (units_of v ss)
  us-within = units.units-within v w x a.entries_end b.names_differ o.fold s.segments found

  by-same : (j : JoinType) → plan_by j w ss s.targets ≡ plan_by j v ss s.targets
  unfolding plan_by simple_plan modified_plan
  by-same None = refl
  by-same Simple =
      let p = marks.units-same v w n same-periods 0 (units_of v ss) us-within in
      let q = marks.natural-same v w n same-periods 0 (units_of v ss) us-within in
      rw (us-same, p, q)
  by-same ModifiedLpc = let r = x.rate in rw (us-same, r)

  by-within : (j : JoinType) → Within n (plan_by j v ss s.targets).units
  unfolding plan_by simple_plan modified_plan
  by-within None = units.nil
  by-within Simple = marks.units-within v n 0 (units_of v ss) us-within
  by-within ModifiedLpc = us-within

  pub plan-same : plan_of w s o ≡ plan_of v s o
  unfolding plan_of
  plan-same = ap (two_segments (ltb (length s.segments) 2)) (by-same o.join)

  plan-within : Within n (plan_of v s o).units
  unfolding plan_of
  plan-within = by (ltb (length s.segments) 2)
    where
      by : (t : Bool) → Within n (two_segments t (plan_by o.join v ss s.targets)).units
      by true = units.nil
      by false = by-within o.join

  pub taken-periods-same : periods_taken w s o ≡ periods_taken v s o
  unfolding periods_taken
  taken-periods-same =
      ap (λ (p : Plan). taken (is_simple o.join) w p.units p.marks) plan-same
      ∙ taken-same v w n same-periods a.some_frames (is_simple o.join) (plan_of v s o).units (plan_of v s o).marks plan-within

-- ---- a longer sheet, on the same voice

record Ahead (p q : Plan) : Type 0 where
  units : Heads p.units q.units
  marks : Heads p.marks q.marks

ahead-nil : (q : Plan) → Ahead empty_plan q
ahead-nil q = record { units = heads-nil _; marks = heads-nil _ }

module _ (v : Voice) where
  simple-ahead : (us us' : List Unit) → Heads us us' → Ahead (simple_plan v us) (simple_plan v us')
  unfolding simple_plan
  simple-ahead us us' h = rw h.whole (record { units = marks.units-append v 0 us h.more; marks = marks.natural-append v 0 us h.more })

  modified-ahead : (us us' : List Unit) (ts ts' : List Target) → Heads us us' → Heads ts ts' → (modified_plan v us ts).refusal ≡ None → Ahead (modified_plan v us ts) (modified_plan v us' ts')
  unfolding modified_plan
  modified-ahead us us' ts ts' h k e = record { units = h; marks = rw k.whole (marks.marks-append v.header.rate ts k.more (next-none (end_refusal us) _ e).1) }

  module _ (s t : Sheet) (g : Begins t s) (r : Refers (length s.segments) s.segments) (o : Settings) where
    us-ahead : Heads (units_of v (folded o.fold s.segments)) (units_of v (folded o.fold t.segments))
    us-ahead = let e = g.segments.whole in rw e (units.units-append v o.fold s.segments g.segments.more r)

    by-ahead : (j : JoinType) → (plan_by j v (folded o.fold s.segments) s.targets).refusal ≡ None
        → Ahead (plan_by j v (folded o.fold s.segments) s.targets) (plan_by j v (folded o.fold t.segments) t.targets)
    unfolding plan_by
    by-ahead None e = ahead-nil _
    by-ahead Simple e = simple-ahead _ _ us-ahead
    by-ahead ModifiedLpc e = modified-ahead _ _ s.targets t.targets us-ahead g.targets e

    plan-ahead : (plan_of v s o).refusal ≡ None → Ahead (plan_of v s o) (plan_of v t o)
    unfolding plan_of
    plan-ahead e = by (ltb (length s.segments) 2) refl e
      where
        by : (c : Bool) → ltb (length s.segments) 2 ≡ c → (two_segments c (plan_by o.join v (folded o.fold s.segments) s.targets)).refusal ≡ None
            → Ahead (two_segments c (plan_by o.join v (folded o.fold s.segments) s.targets)) (plan_of v t o)
        by true c e = ahead-nil _
        by false c e =
            let l : 2 ≤ length s.segments = ltb-false (length s.segments) 2 c in
            let m : 2 ≤ length t.segments = rw (g.segments.whole, length-append) (omega arith) in
            rw (le-ltb (length t.segments) 2 m, plan_of) (by-ahead o.join e)

    pub marks-ahead : (plan_of v s o).refusal ≡ None → Heads (plan_of v s o).marks (plan_of v t o).marks
    marks-ahead e = (plan-ahead e).marks

    pub taken-ahead : (plan_of v s o).refusal ≡ None → Heads (periods_taken v s o) (periods_taken v t o)
    unfolding periods_taken
    taken-ahead e =
        let p = plan-ahead e in
        let q = p.units.whole in
        let m = p.marks.whole in
        rw (q, m) (taken-append (is_simple o.join) v (plan_of v s o).units p.units.more (plan_of v s o).marks p.marks.more)

-- ---- both

module _ (v w : Voice) (x : Extends w v) (a : Opens v) (b : Opens w) (s t : Sheet) (g : Begins t s) (r : Refers (length s.segments) s.segments) (o : Settings)
    (found : first_tried_found v o.fold s.segments ≡ true) (e : (plan_of v s o).refusal ≡ None) where
  pub periods-ahead : Heads (periods_of v s o) (periods_of w t o)
  periods-ahead =
      let p : (plan_of w s o).refusal ≡ None = rw (plan-same v w x a b s o found) e in
      let q : Heads (periods_taken w s o) (periods_taken w t o) = taken-ahead w s t g r o p in
      let c = taken-periods-same v w x a b s o found in
      let d : Heads (periods_taken v s o) (periods_taken w t o) = rw c at q in
      let z = sound-is w t o ∙ same-scales (filter_in o) _ v.header.coeff_min _ v.header.coeff_range (periods_taken w t o) (periods_taken w t o) x.coeff_min x.coeff_range refl in
      rw (sound-is v s o, z) (sound-heads (filter_in o) v.header.coeff_min v.header.coeff_range (periods_taken v s o) (periods_taken w t o) d)

  pub periods-equal : periods_of w s o ≡ periods_of v s o
  periods-equal =
      sound-is w s o ∙ same-scales (filter_in o) _ _ _ _ (periods_taken w s o) (periods_taken v s o) x.coeff_min x.coeff_range (taken-periods-same v w x a b s o found) ∙ sym (sound-is v s o)
