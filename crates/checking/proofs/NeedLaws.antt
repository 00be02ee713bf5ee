-- What the buffers of a call need.
use Rattle.std.specs.Prelude.{None}
use mathlib.Core.Path.{◌≡◌, refl, sym, ap, ◌∙◌}
use mathlib.Core.Bool.{Bool, true, false}
use mathlib.Core.List.{List}
use Prim.Native.Nat.{ℕ, ◌*◌, ◌≤◌, ◌<◌}
use native.Mathlib.Nat.{mul-zero, mul_comm}
use native.Mathlib.Omega.{arith}
use borrow.Author.Tests.{lt-ltb, le-ltb, ltb-false, leb-true}
use lib.Dec.{ltb}
use lib.ListN.{length}
use Rattle.voice.specs.declared.DiphoneVoice.{DiphoneVoice}
use Rattle.voice.specs.declared.VoiceHeader.{VoiceHeader}
use Rattle.base.specs.Choice.{pick}
use Rattle.base.proofs.CaseLaws.{by_order}
use Rattle.base.proofs.ListLaws.{every-at}
use Rattle.voice.specs.Header.{good_numbers, good_header}
use Rattle.voice.specs.Voice.{Voice, places_of, voice_at, voice_of}
use Rattle.voice.specs.Opening.{opening_refusal, IsOpen}
use Rattle.voice.proofs.OpeningLaws.{passed}
use Rattle.sheet.specs.declared.Target.{Target}
use Rattle.sheet.specs.Sheet.{SegmentRead, Sheet}
use Rattle.units.specs.declared.Unit.{Unit}
use Rattle.units.specs.Selecting.{folded}
use Rattle.units.specs.Units.{greatest_end, units_of}
use Rattle.units.proofs.UnitLaws.{units-some}
use Rattle.marks.specs.Rising.{Rising}
use Rattle.marks.specs.Checking.{last_of, up_to}
use Rattle.marks.proofs.RiseLaws.{natural-rises, marks-rise}
use Rattle.excitation.specs.Taken.{taken, rows_of, excitation_of}
use Rattle.excitation.proofs.ShareLaws.{TakesFront, marks-taken}
use Rattle.excitation.proofs.OwnLaws.{own-taken}
use Rattle.excitation.proofs.CountLaws.{taken-few, taken-count, taken-last, taken-row-values}
use Rattle.call.specs.declared.JoinType.{JoinType}
use Rattle.call.specs.declared.JoinType.TheVariants.{None, Simple, ModifiedLpc}
use Rattle.call.specs.declared.Settings.{Settings}
use Rattle.call.specs.Call.{Plan, simple_plan, modified_plan, plan_by, plan_of, is_simple, periods_taken}
use Rattle.call.specs.Buffers.{need_of}
use Rattle.call.proofs.CallLaws.{two_segments}
use Rattle.voice.specs.Periods.{decode_room}
use Rattle.voice.proofs.TableLaws.{header_is}
use Rattle.opening.proofs.IndexLaws.{entries-count}
use Rattle.call.specs.declared.Need.{Need}
use Rattle.marks.specs.declared.Counts.{Counts}
use Rattle.checking.specs.Joining.{Counted, need_by}

module _ (file : List ℕ) (d : DiphoneVoice) (o : IsOpen file d) (c : Counts) (room : ℕ) (r : room ≡ decode_room (voice_of file)) where
  abbrev with : ℕ → ℕ → ℕ → Need
  with periods rows excitation = record { entries = d.count; marks = c.marks; periods = periods; rows = rows; excitation = excitation; decoded = room }

  order-is : (voice_of file).header.order ≡ d.header.order
  order-is = ap (λ (h : VoiceHeader). h.order) (header_is file d o.places)

  pub need-few : c.marks < 2 → with 0 0 0 ≡ need_by (voice_of file) c
  unfolding need_by
  need-few h = let n = entries-count file d o in rw (lt-ltb c.marks 2 h, n, r, mul-zero)

  pub need-more : 2 ≤ c.marks → with c.taken (d.header.order * c.taken) c.last ≡ need_by (voice_of file) c
  unfolding need_by
  need-more h = let n = entries-count file d o in rw (le-ltb c.marks 2 h, n, r, order-is)

-- ---- marks do not fall

by-rises : (j : JoinType) (v : Voice) (ss : List SegmentRead) (ts : List Target) → 0 < v.header.rate → v.header.rate ≤ 48000 → Rising 0 (plan_by j v ss ts).marks
unfolding plan_by simple_plan modified_plan
by-rises None v ss ts h l = tt
by-rises Simple v ss ts h l = natural-rises v 0 (units_of v ss)
by-rises ModifiedLpc v ss ts h l = marks-rise v.header.rate h (omega arith) ts

plan-rises : (v : Voice) (s : Sheet) (o : Settings) → 0 < v.header.rate → v.header.rate ≤ 48000 → Rising 0 (plan_of v s o).marks
unfolding plan_of
plan-rises v s o h l = by (ltb (length s.segments) 2)
  where
    by : (t : Bool) → Rising 0 (two_segments t (plan_by o.join v (folded o.fold s.segments) s.targets)).marks
    by true = tt
    by false = by-rises o.join v (folded o.fold s.segments) s.targets h l

-- an open voice's rate is from 1 to 48,000
rate-good : (file : List ℕ) → opening_refusal file ≡ None → (1 ≤ (voice_of file).header.rate) × ((voice_of file).header.rate ≤ 48000)
unfolding good_numbers good_header voice_of voice_at places_of
rate-good file e = let n = every-at _ (passed file e).header 1 in (leb-true 1 _ (every-at _ n 2), leb-true _ 48000 (every-at _ n 3))

-- ---- the marks taken are those up to the greatest target end

by_front : (j : JoinType) (v : Voice) (fold : Bool) (ss : List SegmentRead) (ts : List Target) → 2 ≤ length ss
    → let p = plan_by j v (folded fold ss) ts in 2 ≤ length p.marks → TakesFront (is_simple j) p.units p.marks
unfolding plan_by simple_plan modified_plan
by_front None v fold ss ts h m = absurd (omega arith)
by_front Simple v fold ss ts h m = own-taken v (units_of v (folded fold ss)) m
by_front ModifiedLpc v fold ss ts h m = marks-taken _ _ m (units-some v fold ss h)

plan-front : (v : Voice) (s : Sheet) (o : Settings) → 2 ≤ length (plan_of v s o).marks → TakesFront (is_simple o.join) (plan_of v s o).units (plan_of v s o).marks
unfolding plan_of
plan-front v s o m = by (ltb (length s.segments) 2) refl m
  where
    joined : Plan
    joined = plan_by o.join v (folded o.fold s.segments) s.targets

    by : (t : Bool) → ltb (length s.segments) 2 ≡ t → 2 ≤ length (two_segments t joined).marks → TakesFront (is_simple o.join) (two_segments t joined).units (two_segments t joined).marks
    by true e m = absurd (omega arith)
    by false e m = by_front o.join v o.fold s.segments s.targets (ltb-false (length s.segments) 2 e) m

-- ---- what the call fills

module _ (natural : Bool) (v : Voice) (us : List Unit) (ms : List ℕ) (takes : 2 ≤ length ms → TakesFront natural us ms) where
  abbrev front : List ℕ
  front = up_to (greatest_end us) ms

  periods-are : pick (ltb (length ms) 2) 0 (length front) ≡ length (taken natural v us ms)
  periods-are =
      by_order (length ms) 2
      (λ h. rw (lt-ltb (length ms) 2 h) (sym (taken-few natural v us ms h).0))
      (λ h. rw (le-ltb (length ms) 2 h) (sym (taken-count natural v us ms (takes h))))

  excitation-is : Rising 0 ms → pick (ltb (length ms) 2) 0 (last_of 0 front) ≡ length (excitation_of (taken natural v us ms))
  excitation-is r =
      by_order (length ms) 2
      (λ h. rw (lt-ltb (length ms) 2 h) (sym (taken-few natural v us ms h).1))
      (λ h. rw (le-ltb (length ms) 2 h) (sym (taken-last natural v us ms (takes h) r)))

  rows_are : v.header.order * length (taken natural v us ms) ≡ length (rows_of (taken natural v us ms))
  rows_are = mul_comm v.header.order (length (taken natural v us ms)) ∙ sym (taken-row-values natural v us ms)

pub need-filled : (file : List ℕ) → opening_refusal file ≡ None → (s : Sheet) (o : Settings) (c : Counts)
    → let p = plan_of (voice_of file) s o in Counted p.marks (up_to (greatest_end p.units) p.marks) c → need_by (voice_of file) c ≡ need_of (voice_of file) s o
unfolding need_by need_of periods_taken
need-filled file e s o c k =
    let v = voice_of file in
    let natural = is_simple o.join in
    let us = (plan_of v s o).units in
    let ms = (plan_of v s o).marks in
    let g = rate-good file e in
    let front = plan-front v s o in
    let m = k.marks in
    let t = k.taken in
    let l = k.last in
    rw (m, t, l, periods-are natural v us ms front, excitation-is natural v us ms front (plan-rises v s o g.0 g.1), rows_are natural v us ms front)
