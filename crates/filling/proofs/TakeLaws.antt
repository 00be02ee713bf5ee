-- The loop over units that takes their periods.
use Rattle.std.specs.Prelude.{None, Some}
use mathlib.Core.Path.{◌≡◌, refl, sym, ap, subst, ◌∙◌}
use mathlib.Core.Bool.{Bool, true, false}
use mathlib.Core.List.{List, [], ◌∷◌, ◌++◌}
use Prim.Native.Nat.{ℕ, ◌+◌, ◌*◌, ◌≤◌}
use native.Mathlib.Omega.{arith}
use borrow.Author.Tests.{leb-true}
use lib.Dec.{leb}
use lib.ListN.{length, drop}
use lib.Seq.{sets, length-sets}
use Rattle.base.specs.Choice.{pick}
use Rattle.base.specs.Buffers.{flat}
use Rattle.base.specs.Bytes.{bytes_of, elements}
use Rattle.refusal.specs.declared.Refusal.TheVariants.{PastLimit}
use Rattle.voice.specs.declared.DiphoneVoice.{DiphoneVoice}
use Rattle.voice.specs.declared.VoiceHeader.{VoiceHeader}
use Rattle.voice.specs.Voice.{Voice, voice_of}
use Rattle.voice.specs.Periods.{samples_from}
use Rattle.voice.specs.Opening.{IsOpen}
use Rattle.voice.proofs.TableLaws.{header_is}
use Rattle.units.specs.declared.Unit.{Unit}
use Rattle.units.specs.declared.Selection.{Selection}
use Rattle.units.specs.declared.UnitWalk.{UnitWalk}
use Rattle.units.specs.Units.{ending_at, Inside, limit, end_refusal}
use Rattle.units.specs.Walking.{units_left, StartsUnits}
use Rattle.marks.specs.NaturalMarks.{period_count, natural_units}
use Rattle.marks.specs.Checking.{last_of}
use Rattle.marks.specs.Rising.{Rising}
use Rattle.excitation.specs.Shares.{share_count, Share, share_of, shares_from}
use Rattle.excitation.specs.Taken.{Period, periods_of_share, rows_of, excitation_of}
use Rattle.excitation.proofs.ShareLaws.{front-rises, rest-rises}
use Rattle.excitation.proofs.SizedLaws.{Sized, share-sized}
use Rattle.excitation.proofs.CountLaws.{share-last}
use Rattle.taking.specs.declared.Progress.{Progress}
use Rattle.taking.specs.Taking.{Held, unit_taken, CanTake, Takes}
use Rattle.filling.specs.Filling.{join_unit, join_units, PeriodBuffers, lent_periods, fill_periods, HasRoom, taken_from, CanTakeUnits, units_take}
use Rattle.filling.proofs.PeriodLaws.{same-buffers, fill-append, fill_none, room-first, room-rest}

-- ---- the units of a join

pub join-none : (natural : Bool) (v : Voice) (place : ℕ) → join_units natural v place [] ≡ []
unfolding natural_units
join-none true v place = refl
join-none false v place = refl

pub join_more : (natural : Bool) (v : Voice) (place : ℕ) (u : Unit) (us : List Unit)
    → join_units natural v place (u ∷ us) ≡ join_unit natural v place u ∷ join_units natural v (join_unit natural v place u).target_end us
unfolding natural_units
join_more true v place u us = refl
join_more false v place u us = refl

pub join-natural : (natural : Bool) (v : Voice) (place : ℕ) (u : Unit) (n : ℕ) → natural ≡ true → n ≡ samples_from v u.first_period (period_count u)
    → ending_at u (place + n) ≡ join_unit natural v place u
join-natural natural v place u n t e = rw (t, e)

pub join_kept : (natural : Bool) (v : Voice) (place : ℕ) (u : Unit) → natural ≡ false → u ≡ join_unit natural v place u
join_kept natural v place u t = rw t

pub low_first : (u : Unit) (us : List Unit) → end_refusal (u ∷ us) ≡ None → (u.target_end ≤ limit) × (end_refusal us ≡ None)
unfolding end_refusal
low_first u us e = by (leb u.target_end limit) refl e
  where
    by : (t : Bool) → leb u.target_end limit ≡ t → pick t (end_refusal us) (Some PastLimit) ≡ None → (u.target_end ≤ limit) × (end_refusal us ≡ None)
    by true l e = (leb-true u.target_end limit l, e)
    by false l e = let z : ◌≡◌ {A = ℕ} 0 1 = cc in absurd (omega arith)

-- ---- what one unit takes

-- its periods have rows of the order; their samples end at the last mark taken, and the marks that are left do not fall
record UnitTakes (v : Voice) (s : Share) (left : List ℕ) : Type 0 where
  sized : Sized v.header.order (periods_of_share v s)
  ends : s.mark + length (excitation_of (periods_of_share v s)) ≡ last_of s.mark s.marks
  rising : Rising (last_of s.mark s.marks) left

unit-takes : (natural : Bool) (v : Voice) (end_before mark : ℕ) (u : Unit) (ms : List ℕ) → Rising mark ms → UnitTakes v (share_of natural end_before mark u ms) (drop (share_count natural u ms) ms)
unit-takes natural v end_before mark u ms r =
    let s = share_of natural end_before mark u ms in
    let n = share_count natural u ms in
    record { sized = share-sized v s; ends = share-last v s (front-rises n mark ms r); rising = rest-rises n mark ms r }

-- ---- one turn of the loop

-- the units us are still to take, after `taken` periods that end at a mark; `left` are the marks that are left, and `all` is what the buffers will have
pub record UnitsTaking (v : Voice) (natural : Bool) (us : List Unit) (end taken mark : ℕ) (left : List ℕ) (b all : PeriodBuffers) : Type 0 where
  pub low : end_refusal (join_units natural v end us) ≡ None
  pub end_low : end ≤ limit
  pub rising : Rising mark left
  pub room : HasRoom v taken mark (taken_from natural v end mark (join_units natural v end us) left) b
  pub filled : fill_periods v taken mark (taken_from natural v end mark (join_units natural v end us) left) b ≡ all

same-taking : (v : Voice) (natural : Bool) (us : List Unit) (end taken taken₁ mark mark₁ : ℕ) (left left₁ : List ℕ) (b b₁ all : PeriodBuffers) → taken₁ ≡ taken → mark₁ ≡ mark → left₁ ≡ left → b₁ ≡ b
    → UnitsTaking v natural us end taken mark left b all → UnitsTaking v natural us end taken₁ mark₁ left₁ b₁ all
same-taking v natural us end taken taken₁ mark mark₁ left left₁ b b₁ all p q r s k = rw (p, q, r, s) k

-- before the first unit
pub taking-first : (natural : Bool) (file index sheet : List ℕ) (by : Selection) (marks : List ℕ) (b : PeriodBuffers) (w : UnitWalk)
    → CanTakeUnits natural file index sheet by marks b → StartsUnits sheet by.places.segments.count w
    → UnitsTaking (voice_of file) natural (units_left (voice_of file) by.fold sheet by.places.segments.count w) 0 0 0 (drop 0 (elements 4 marks)) b (fill_periods (voice_of file) 0 0 (units_take natural file sheet by marks) b)
taking-first natural file index sheet by marks b w h s =
    let v = voice_of file in
    subst (λ (us : List Unit). UnitsTaking v natural us 0 0 0 (elements 4 marks) b (fill_periods v 0 0 (units_take natural file sheet by marks) b)) (s.units v by.fold)
    (record { low = h.low; end_low = omega arith; rising = h.rising; room = h.room; filled = refl })

-- after the last one
pub taking-done : (v : Voice) (natural : Bool) (us : List Unit) (end taken mark : ℕ) (left : List ℕ) (b all : PeriodBuffers) → UnitsTaking v natural us end taken mark left b all → us ≡ [] → b ≡ all
unfolding shares_from flat
taking-done v natural us end taken mark left b all k e =
    sym (fill_none v taken mark b)
    ∙ ap (λ (l : List Unit). fill_periods v taken mark (taken_from natural v end mark l left) b) (sym (join-none natural v end))
    ∙ ap (λ (l : List Unit). fill_periods v taken mark (taken_from natural v end mark (join_units natural v end l) left) b) (sym e)
    ∙ k.filled

module _ (v : Voice) (natural : Bool) (us : List Unit) (end taken mark : ℕ) (left : List ℕ) (b all : PeriodBuffers) (k : UnitsTaking v natural us end taken mark left b all)
    (u : Unit) (rest : List Unit) (e : us ≡ u ∷ rest) where
  abbrev w : Unit
  w = join_unit natural v end u

  abbrev s : Share
  s = share_of natural end mark w left

  abbrev ps : List Period
  ps = periods_of_share v s

  -- the last mark taken, and those that are left then
  abbrev last : ℕ
  last = last_of mark s.marks

  abbrev left₁ : List ℕ
  left₁ = drop (share_count natural w left) left

  abbrev after : List Unit
  after = join_units natural v w.target_end rest

  abbrev others : List Period
  others = taken_from natural v w.target_end last after left₁

  join_is : join_units natural v end us ≡ w ∷ after
  join_is = ap (join_units natural v end) e ∙ join_more natural v end u rest

  lows : (w.target_end ≤ limit) × (end_refusal after ≡ None)
  lows = low_first w after (sym (ap end_refusal join_is) ∙ k.low)

  takes : UnitTakes v s left₁
  takes = unit-takes natural v end mark w left k.rising

  taken_is : taken_from natural v end mark (join_units natural v end us) left ≡ ps ++ others
  unfolding shares_from flat
  taken_is = ap (λ (l : List Unit). taken_from natural v end mark l left) join_is

  room-is : HasRoom v taken mark (ps ++ others) b
  room-is = subst (λ (ps : List Period). HasRoom v taken mark ps b) taken_is k.room

  room-unit : HasRoom v taken mark ps b
  room-unit = room-first v taken mark ps others takes.sized last takes.ends b room-is

  -- what the unit takes fits
  pub taking-low : w.target_end ≤ limit
  taking-low = lows.0

  -- the units after it
  taking-rest : (b₁ : PeriodBuffers) → b₁ ≡ fill_periods v taken mark ps b → length b₁.decoded ≡ length b.decoded
      → UnitsTaking v natural rest w.target_end (taken + length ps) last left₁ b₁ all
  unfolding fill_periods
  taking-rest b₁ q d =
      record {
        low = lows.1;
        end_low = lows.0;
        rising = takes.rising;
        room =
            room-rest v taken mark ps others takes.sized last takes.ends b room-is b₁
            (ap (λ (x : PeriodBuffers). length x.sizes) q ∙ simp length-sets)
            (ap (λ (x : PeriodBuffers). length x.rows) q ∙ simp length-sets)
            (ap (λ (x : PeriodBuffers). length x.excitation) q ∙ simp length-sets) d;
        filled =
            ap (λ (x : PeriodBuffers). fill_periods v (taken + length ps) last others x) q
            ∙ sym (fill-append v taken mark ps others takes.sized last takes.ends b)
            ∙ ap (λ (ps : List Period). fill_periods v taken mark ps b) (sym taken_is)
            ∙ k.filled;
      }

  pub taking-next : (taken₁ mark₁ : ℕ) (l : List ℕ) (b₁ : PeriodBuffers) → taken₁ ≡ taken + length ps → mark₁ ≡ last → l ≡ left₁ → b₁ ≡ fill_periods v taken mark ps b
      → length b₁.decoded ≡ length b.decoded → UnitsTaking v natural rest w.target_end taken₁ mark₁ l b₁ all
  taking-next taken₁ mark₁ l b₁ p q r s d = same-taking v natural rest w.target_end _ taken₁ _ mark₁ _ l b₁ b₁ all p q r refl (taking-rest b₁ s d)

-- ---- the same by the function that takes a unit's periods

-- at first the decode buffer's front has no period
pub none-held : (file : List ℕ) (d : DiphoneVoice) → IsOpen file d → (b : List ℕ) → Held (voice_of file) b d.header.frames
none-held file d o b h = let e = ap (λ (h : VoiceHeader). h.frames) (header_is file d o.places) in absurd (omega (arith, h, e))

module _ (file : List ℕ) (d : DiphoneVoice) (o : IsOpen file d) (natural : Bool) (us : List Unit) (end : ℕ) (at : Progress) (marks : List ℕ) (sizes rows excitation decoded : List ℕ) (all : PeriodBuffers)
    (k : UnitsTaking (voice_of file) natural us end at.taken at.mark (drop at.taken (elements 4 marks)) (lent_periods sizes rows excitation decoded) all)
    (u : Unit) (rest : List Unit) (e : us ≡ u ∷ rest) (x : Unit) (q : x ≡ join_unit natural (voice_of file) end u) where
  abbrev joined : Unit
  joined = join_unit natural (voice_of file) end u

  order_is : (voice_of file).header.order ≡ d.header.order
  order_is = ap (λ (h : VoiceHeader). h.order) (header_is file d o.places)

  pub can-take : Inside d.header.frames u → Held (voice_of file) decoded at.front → CanTake natural file d x end marks at (length sizes) (length rows) (length excitation) decoded
  can-take i h =
      let m = drop at.taken (elements 4 marks) in
      let b = lent_periods sizes rows excitation decoded in
      let r = room-unit (voice_of file) natural us end at.taken at.mark m b all k u rest e in
      let g = (takes (voice_of file) natural us end at.taken at.mark m b all k u rest e).ends in
      subst (λ (x : Unit). CanTake natural file d x end marks at (length sizes) (length rows) (length excitation) decoded) (sym q)
      (record {
        opened = o;
        inside = record { rising = i.rising; within = i.within; short = i.short };
        short = i.short;
        low = taking-low (voice_of file) natural us end at.taken at.mark m b all k u rest e;
        rising = k.rising;
        sizes_room = r.sizes;
        rows_room = subst (λ (n : ℕ). 2 * (n * (at.taken + length (unit_taken natural (voice_of file) joined end marks at))) ≤ length rows) order_is r.rows;
        excitation_room = subst (λ (n : ℕ). n ≤ length excitation) g r.excitation;
        decoded_room = r.decoded;
        held = h;
      })

  pub take_next : (r : Progress) (sizes₁ rows₁ excitation₁ decoded₁ : List ℕ) → Takes natural file d x end marks at r sizes sizes₁ rows rows₁ excitation excitation₁ decoded decoded₁
      → length decoded₁ ≡ length decoded
      → UnitsTaking (voice_of file) natural rest x.target_end r.taken r.mark (drop r.taken (elements 4 marks)) (lent_periods sizes₁ rows₁ excitation₁ decoded₁) all
  unfolding fill_periods
  take_next r sizes₁ rows₁ excitation₁ decoded₁ given l =
      let m = drop at.taken (elements 4 marks) in
      let b = lent_periods sizes rows excitation decoded in
      let b₁ = lent_periods sizes₁ rows₁ excitation₁ decoded₁ in
      let s = subst (λ (x : Unit). Takes natural file d x end marks at r sizes sizes₁ rows rows₁ excitation excitation₁ decoded decoded₁) q given in
      subst (λ (x : Unit). UnitsTaking (voice_of file) natural rest x.target_end r.taken r.mark (drop r.taken (elements 4 marks)) b₁ all) (sym q)
      (taking-next (voice_of file) natural us end at.taken at.mark m b all k u rest e r.taken r.mark (drop r.taken (elements 4 marks)) b₁ s.taken s.mark s.left
      (same-buffers s.sizes
      (s.rows ∙ ap (λ (n : ℕ). sets rows (2 * (n * at.taken)) (flat (bytes_of 2) (rows_of (unit_taken natural (voice_of file) joined end marks at)))) (sym order_is))
      s.excitation s.decoded) l)
