-- All buffers of a call: what they need, and what is left in them.
use Rattle.std.specs.Prelude.{Ok}
use mathlib.Core.Path.{◌≡◌, sym, ap, subst, ◌∙◌}
use mathlib.Core.Bool.{Bool, true}
use mathlib.Core.List.{List, []}
use Prim.Native.Nat.{ℕ, ◌+◌, ◌*◌, ◌/◌, ◌^◌, ◌≤◌, ◌<◌}
use native.Mathlib.Omega.{arith}
use borrow.Author.Tests.{leb-true, lt-ltb, le-ltb}
use lib.ListN.{length}
use Rattle.base.specs.Buffers.{over, flat}
use Rattle.base.specs.Bytes.{bytes_of}
use Rattle.base.proofs.ListLaws.{every-at}
use Rattle.base.proofs.BufferLaws.{over-nil}
use Rattle.voice.specs.declared.DiphoneVoice.{DiphoneVoice}
use Rattle.voice.specs.Voice.{Voice, voice_of}
use Rattle.voice.specs.Opening.{index_fits, index_bytes}
use Rattle.sheet.specs.declared.Places.{Places}
use Rattle.sheet.specs.Sheet.{Sheet, segment, sheet_of}
use Rattle.sheet.specs.Places.{answer_in, sheet_places}
use Rattle.sheet.proofs.ReadLaws.{sheet-ahead}
use Rattle.sheet.proofs.WalkLaws.{ahead-length}
use Rattle.units.specs.declared.Held.TheVariants.{Sorted}
use Rattle.units.specs.declared.Selection.{Selection}
use Rattle.units.specs.Selecting.{folded}
use Rattle.units.proofs.AskedLaws.{holds-sorted}
use Rattle.excitation.specs.Taken.{Period, taken, rows_of, excitation_of}
use Rattle.excitation.proofs.ShareLaws.{taken_none}
use Rattle.excitation.proofs.SizedLaws.{Sized}
use Rattle.call.specs.declared.Settings.{Settings}
use Rattle.call.specs.declared.Need.{Need}
use Rattle.call.specs.Call.{Plan, empty_plan, plan_by, plan_of, is_simple, periods_taken}
use Rattle.call.proofs.CallLaws.{two_segments, periods-sized}
use Rattle.call.specs.Buffers.{Buffers, lent, filled, need_of, holds, lengths_of, over_all}
use Rattle.filling.specs.Filling.{planned, PeriodBuffers, lent_periods, fill_periods, HasRoom, join_takes, CanJoin, CanFill}
use Rattle.filling.proofs.PeriodLaws.{rows-count, fill_none, OverEach, fill-over}

-- ---- the plan, by how many segments there are

pub segment-count : (sheet : List ℕ) (p : Places) → answer_in (sheet_places sheet) ≡ Ok p → length (sheet_of sheet).segments ≡ p.segments.count
segment-count sheet p e =
    ahead-length (segment p.segments.count) sheet p.segments.count p.segments.at (sheet_of sheet).segments (sheet-ahead sheet p e).segments

pub plan-few : (v : Voice) (s : Sheet) (o : Settings) → length s.segments < 2 → plan_of v s o ≡ empty_plan
unfolding plan_of
plan-few v s o h = ap (λ (t : Bool). two_segments t (plan_by o.join v (folded o.fold s.segments) s.targets)) (lt-ltb (length s.segments) 2 h)

pub plan-some : (v : Voice) (s : Sheet) (o : Settings) → 2 ≤ length s.segments → plan_of v s o ≡ plan_by o.join v (folded o.fold s.segments) s.targets
unfolding plan_of
plan-some v s o h = ap (λ (t : Bool). two_segments t (plan_by o.join v (folded o.fold s.segments) s.targets)) (le-ltb (length s.segments) 2 h)

-- ---- what is filled, in parts

same-lent : {i i₁ m m₁ s s₁ r r₁ e e₁ d d₁ : List ℕ} → i ≡ i₁ → m ≡ m₁ → s ≡ s₁ → r ≡ r₁ → e ≡ e₁ → d ≡ d₁ → lent i m s r e d ≡ lent i₁ m₁ s₁ r₁ e₁ d₁
same-lent a b c d e f = cc

-- the plan p and the periods ps of a call are those that were filled in
filled-by-parts : (v : Voice) (s : Sheet) (o : Settings) (old : Buffers) (i m : List ℕ) (b : PeriodBuffers)
    → i ≡ over (index_bytes v) old.index → m ≡ over (flat (bytes_of 4) (plan_of v s o).marks) old.marks
    → OverEach v (periods_taken v s o) (lent_periods old.sizes old.rows old.excitation old.decoded) b
    → lent i m b.sizes b.rows b.excitation b.decoded ≡ over_all (filled v s o) old
unfolding filled
filled-by-parts v s o old i m b p q r = same-lent p q r.sizes r.rows r.excitation r.decoded

-- ---- a call that was checked

-- how its units are selected, by the sorted index
abbrev pub selecting : DiphoneVoice → Places → Settings → Selection
selecting d p o = record { voice = d; held = Sorted; places = p; fold = o.fold }

module _ (file sheet : List ℕ) (o : Settings) (d : DiphoneVoice) (p : Places) (n : Need) (b : Buffers) (h : CanFill file sheet o d p n b) where
  abbrev v : Voice
  v = voice_of file

  abbrev s : Sheet
  s = sheet_of sheet

  abbrev ps : List Period
  ps = periods_taken v s o

  rooms : holds (need_of v s o) (lengths_of b) ≡ true
  rooms = subst (λ (n : Need). holds n (lengths_of b) ≡ true) h.need h.room

  pub index-room : index_fits v (length b.index) ≡ true
  unfolding index_fits need_of holds
  index-room = every-at _ rooms 0

  marks-room : length (plan_of v s o).marks ≤ length b.marks / 4
  unfolding need_of holds
  marks-room = leb-true _ (length b.marks / 4) (every-at _ rooms 1)

  sized : Sized v.header.order ps
  sized = periods-sized v s o

  periods-room : HasRoom v 0 0 ps (lent_periods b.sizes b.rows b.excitation b.decoded)
  unfolding need_of holds
  periods-room =
      let a : length ps ≤ length b.sizes / 4 = leb-true _ (length b.sizes / 4) (every-at _ rooms 2) in
      let c : length (rows_of ps) ≤ length b.rows / 2 = leb-true _ (length b.rows / 2) (every-at _ rooms 3) in
      let e : length (excitation_of ps) ≤ length b.excitation = leb-true _ (length b.excitation) (every-at _ rooms 4) in
      let z : 0 + length ps ≡ length ps = omega arith in
      let r : length (rows_of ps) ≡ v.header.order * (0 + length ps) = rows-count v.header.order ps sized ∙ ap (λ (k : ℕ). v.header.order * k) (sym z) in
      record { sizes = omega arith; rows = omega arith; excitation = omega arith; decoded = leb-true _ (length b.decoded) (every-at _ rooms 5) }

  abbrev four : PeriodBuffers
  four = lent_periods b.sizes b.rows b.excitation b.decoded

  filled-all : (i m : List ℕ) (x : PeriodBuffers) → i ≡ over (index_bytes v) b.index → m ≡ over (flat (bytes_of 4) (plan_of v s o).marks) b.marks → x ≡ fill_periods v 0 0 ps four
      → lent i m x.sizes x.rows x.excitation x.decoded ≡ over_all (filled v s o) b
  filled-all i m x e f g = filled-by-parts v s o b i m x e f (subst (λ (y : PeriodBuffers). OverEach v ps four y) (sym g) (fill-over v ps four sized periods-room))

  -- fewer than two segments: no mark, and no period
  pub few-filled : (i : List ℕ) → i ≡ over (index_bytes v) b.index → p.segments.count < 2 → lent i b.marks b.sizes b.rows b.excitation b.decoded ≡ over_all (filled v s o) b
  unfolding periods_taken flat
  few-filled i e l =
      let q : plan_of v s o ≡ empty_plan = plan-few v s o (subst (λ (k : ℕ). k < 2) (sym (segment-count sheet p h.places)) l) in
      let c : ps ≡ [] = ap (λ (x : Plan). taken (is_simple o.join) v x.units x.marks) q ∙ taken_none (is_simple o.join) [] [] v (omega arith) in
      filled-all i b.marks four e (sym (ap (λ (x : Plan). over (flat (bytes_of 4) x.marks) b.marks) q ∙ over-nil b.marks)) (sym (ap (λ (x : List Period). fill_periods v 0 0 x four) c ∙ fill_none v 0 0 four))

  -- two or more
  module _ (l : 2 ≤ p.segments.count) where
    abbrev by : Selection
    by = selecting d p o

    plan-is : plan_of v s o ≡ planned o.join file sheet by
    plan-is = plan-some v s o (subst (λ (k : ℕ). 2 ≤ k) (sym (segment-count sheet p h.places)) l)

    periods-are : ps ≡ join_takes o.join file sheet by
    unfolding periods_taken
    periods-are = ap (λ (q : Plan). taken (is_simple o.join) v q.units q.marks) plan-is

    pub can-join : (index : List ℕ) → index ≡ over (index_bytes v) b.index → length file < 2 ^ 63 → CanJoin o.join file index sheet by n.marks (length b.marks) four
    unfolding need_of holds
    can-join index e f =
        let m = marks-room in
        record {
          marked =
              record {
                selects = record { searchable = record { opened = h.opened; holds = holds-sorted file d h.opened b.index index index-room e f }; places = h.places };
                two = l;
                spoken = sym (ap (λ (q : Plan). q.refusal) plan-is) ∙ h.passed;
                room = subst (λ (q : Plan). 4 * length q.marks ≤ length b.marks) plan-is (omega arith);
              };
          counted = ap (λ (n : Need). n.marks) h.need ∙ ap (λ (q : Plan). length q.marks) plan-is;
          room = subst (λ (qs : List Period). HasRoom v 0 0 qs four) periods-are periods-room;
        }

    pub joined-filled : (i m : List ℕ) (x : PeriodBuffers) → i ≡ over (index_bytes v) b.index → m ≡ over (flat (bytes_of 4) (planned o.join file sheet by).marks) b.marks
        → x ≡ fill_periods v 0 0 (join_takes o.join file sheet by) four → lent i m x.sizes x.rows x.excitation x.decoded ≡ over_all (filled v s o) b
    joined-filled i m x e f g =
        filled-all i m x e (f ∙ ap (λ (q : Plan). over (flat (bytes_of 4) q.marks) b.marks) (sym plan-is)) (g ∙ ap (λ (qs : List Period). fill_periods v 0 0 qs four) (sym periods-are))
