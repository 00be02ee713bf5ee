-- One step over the units that are still to come.
use Rattle.std.specs.Prelude.{is_some, None, Option, Some}
use mathlib.Core.Path.{◌≡◌, refl, sym, ap, subst, ◌∙◌}
use mathlib.Core.Bool.{Bool, true, false}
use mathlib.Core.List.{List, [], ◌∷◌, ◌++◌}
use Prim.Native.Nat.{ℕ, suc, ◌+◌, ◌-◌, ◌*◌, ◌≤◌, ◌<◌, ◌^◌}
use borrow.Author.Tests.{lt-ltb, le-ltb}
use lib.Dec.{ltb}
use native.Mathlib.Omega.{arith}
use lib.Ieee.{Float}
use lib.ListN.{length}
use Rattle.base.specs.Choice.{pick}
use Rattle.base.specs.Bytes.{Bytes}
use Rattle.base.proofs.CaseLaws.{by_order}
use Rattle.voice.specs.declared.DiphoneVoice.{DiphoneVoice}
use Rattle.voice.specs.declared.VoiceHeader.{VoiceHeader}
use Rattle.voice.specs.Voice.{Entry, Voice, voice_of}
use Rattle.voice.specs.Opening.{IsOpen}
use Rattle.voice.proofs.TableLaws.{header_is}
use Rattle.voice.proofs.OpenLaws.{offset-within}
use Rattle.index.specs.declared.EntryPeriods.{EntryPeriods}
use Rattle.index.specs.Index.{periods_of}
use Rattle.sheet.specs.Sheet.{SegmentRead, as_f32, repeated, sheet_of}
use Rattle.sheet.specs.Answers.{segment_read}
use Rattle.units.specs.declared.Unit.{Unit}
use Rattle.units.specs.declared.UnitPair.{UnitPair}
use Rattle.units.specs.declared.PairWalk.{PairWalk}
use Rattle.units.specs.declared.PairStep.{PairStep}
use Rattle.units.specs.declared.UnitWalk.{UnitWalk}
use Rattle.units.specs.Selecting.{folded_segment, folded, entry_of}
use Rattle.units.specs.Units.{ends_of, pair_of, listed, Inside, units_of_pair, units_from, units_all, units_of}
use Rattle.units.specs.Walking.{list_in, segments_at, coming, Walking, units_coming, StepsPair, with_second, units_left, many_left, UnitWalking, StartsUnits, StepsUnit}
use Rattle.units.proofs.SelectLaws.{ShortHalves, selected-short}

-- the segments are folded one by one
pub folded-cons : (fold : Bool) (s : SegmentRead) (ss : List SegmentRead) → folded fold (s ∷ ss) ≡ folded_segment fold s ∷ folded fold ss
unfolding folded
folded-cons true s ss = refl
folded-cons false s ss = refl

pub folded-nil : (fold : Bool) → folded fold [] ≡ []
unfolding folded
folded-nil true = refl
folded-nil false = refl

-- an open voice has few frames
pub few-frames : (file : List ℕ) (d : DiphoneVoice) → IsOpen file d → length file < 2 ^ 63 → d.header.frames < 2 ^ 63
few-frames file d o h = let w = offset-within file d o d.header.frames (omega arith) in omega arith

pair-listed : (pair rate : ℕ) (x : Entry) (l r : Float) → units_of_pair pair rate x l r ≡ listed (pair_of pair (periods_of x) (ends_of rate l r))
unfolding units_of_pair
pair-listed pair rate x l r = refl

-- the units of the pairs from the first segment on are all
pub coming-first : (v : Voice) (fold : Bool) (sheet : List ℕ) (count : ℕ) (w : PairWalk) → w.remaining + 1 ≡ count
    → (sheet_of sheet).segments ≡ segment_read sheet w.left ∷ coming sheet count w → units_of v (folded fold (sheet_of sheet).segments) ≡ units_coming v fold sheet count w
unfolding units_all
coming-first v fold sheet count w n e =
    let ss = folded fold (sheet_of sheet).segments in
    let one : 1 ≡ count - w.remaining = omega arith in
    ap (units_all v ss) (ap (folded fold) e ∙ folded-cons fold (segment_read sheet w.left) (coming sheet count w))
    ∙ ap (λ (pair : ℕ). units_from v ss pair (folded_segment fold (segment_read sheet w.left)) (folded fold (coming sheet count w))) one

-- no segment is to come, and no unit
pub coming-none : (v : Voice) (fold : Bool) (sheet : List ℕ) (count : ℕ) (w : PairWalk) → w.remaining ≡ 0 → units_coming v fold sheet count w ≡ []
unfolding units_from repeated
coming-none v fold sheet count w z =
    let left = folded_segment fold (segment_read sheet w.left) in
    let pair = count - w.remaining in
    ap (λ (n : ℕ). units_from v (folded fold (sheet_of sheet).segments) pair left (folded fold (list_in (segments_at sheet count n w.next)))) z
    ∙ ap (units_from v (folded fold (sheet_of sheet).segments) pair left) (folded-nil fold)

-- the walk x comes after a pair of w
abbrev pub After : List ℕ → ℕ → PairWalk → PairWalk → Type 0
After sheet count w x = (Walking sheet count x × (x.remaining + 1 ≡ w.remaining)) × (coming sheet count w ≡ segment_read sheet x.left ∷ coming sheet count x)

module _ (v : Voice) (fold : Bool) (sheet : List ℕ) (count : ℕ) (w x : PairWalk) (n : After sheet count w x) where
  abbrev ss : List SegmentRead
  ss = folded fold (sheet_of sheet).segments

  abbrev entry : Entry
  entry = entry_of v ss (folded_segment fold (segment_read sheet w.left)) (folded_segment fold (segment_read sheet x.left))

  abbrev pair_units : List Unit
  pair_units = units_of_pair (count - w.remaining) v.header.rate entry (as_f32 w.left.end) (as_f32 x.left.end)

  pub coming-next : units_coming v fold sheet count w ≡ pair_units ++ units_coming v fold sheet count x
  unfolding units_from
  coming-next =
      let f = n.0.0.fewer in
      let next : suc (count - w.remaining) ≡ count - x.remaining = omega (arith, f, n.0.1) in
      let right = folded_segment fold (segment_read sheet x.left) in
      ap (units_from v ss (count - w.remaining) (folded_segment fold (segment_read sheet w.left)))
      (ap (folded fold) n.1 ∙ folded-cons fold (segment_read sheet x.left) (coming sheet count x))
      ∙ ap (λ (pair : ℕ). pair_units ++ units_from v ss pair right (folded fold (coming sheet count x))) next

pair_inside : (n pair : ℕ) (e : EntryPeriods) (l r : ℕ) → e.start + e.first + e.second ≤ n → ShortHalves e
    → let p = pair_of pair e (record { first = l; second = r }) in Inside n p.first × Inside n p.second
pair_inside n pair e l r h s =
    let a = s.0 in
    let b = s.1 in
    (record { rising = omega arith; within = omega arith; short = omega arith }, record { rising = omega arith; within = omega arith; short = omega arith })

module _ (file : List ℕ) (bytes : Bytes file) (d : DiphoneVoice) (o : IsOpen file d) (fold : Bool) (sheet : List ℕ) (count : ℕ) (w x : PairWalk)
    (n : After sheet count w x) (e : EntryPeriods) (s : (e ≡ periods_of (entry (voice_of file) fold sheet count w x n)) × (e.start + e.first + e.second ≤ d.header.frames)) (u : UnitPair)
    (p : u ≡ pair_of (count - w.remaining) e (ends_of d.header.rate (as_f32 w.left.end) (as_f32 x.left.end))) where
  pub steps-pair : StepsPair file d fold sheet count w (record { units = u; walk = x })
  steps-pair =
      let l = as_f32 w.left.end in
      let r = as_f32 x.left.end in
      let pair = count - w.remaining in
      let found = entry (voice_of file) fold sheet count w x n in
      let h = selected-short file bytes (folded fold (sheet_of sheet).segments) (folded_segment fold (segment_read sheet w.left)) (folded_segment fold (segment_read sheet x.left)) in
      let i = pair_inside d.header.frames pair e (ends_of d.header.rate l r).first (ends_of d.header.rate l r).second s.1 (subst ShortHalves (sym s.0) h) in
      let rate : (voice_of file).header.rate ≡ d.header.rate = ap (λ (h : VoiceHeader). h.rate) (header_is file d o.places) in
      let is : units_of_pair pair (voice_of file).header.rate found l r ≡ listed u =
      ap (λ (k : ℕ). units_of_pair pair k found l r) rate
      ∙ pair-listed pair d.header.rate found l r
      ∙ ap (λ (q : EntryPeriods). listed (pair_of pair q (ends_of d.header.rate l r))) (sym s.0)
      ∙ sym (ap listed p) in
      record {
        units = coming-next (voice_of file) fold sheet count w x n ∙ ap (λ (us : List Unit). us ++ units_coming (voice_of file) fold sheet count x) is;
        walking = n.0.0;
        fewer = n.0.1;
        first = subst (λ (q : UnitPair). Inside d.header.frames q.first) (sym p) i.0;
        second = subst (λ (q : UnitPair). Inside d.header.frames q.second) (sym p) i.1;
      }

-- ---- unit after unit

many_by : (w : UnitWalk) (o : Option Unit) → w.second ≡ o → many_left w ≡ pick (is_some o) 1 0 + 2 * w.pairs.remaining
many_by w o e = ap (λ (q : Option Unit). pick (is_some q) 1 0 + 2 * w.pairs.remaining) e

many_if : (w : UnitWalk) (t : Bool) → is_some w.second ≡ t → many_left w ≡ pick t 1 0 + 2 * w.pairs.remaining
many_if w t e = ap (λ (u : Bool). pick u 1 0 + 2 * w.pairs.remaining) e

pub some-second : (w : UnitWalk) → is_some w.second ≡ true → ltb 0 (many_left w) ≡ true
some-second w e = let h = many_if w true e in lt-ltb 0 (many_left w) (omega arith)

pub some_pair : (w : UnitWalk) → is_some w.second ≡ false → ltb 0 w.pairs.remaining ≡ ltb 0 (many_left w)
some_pair w e =
    let h = many_if w false e in
    by_order 0 w.pairs.remaining
    (λ l. lt-ltb 0 w.pairs.remaining l ∙ sym (lt-ltb 0 (many_left w) (omega arith)))
    (λ l. le-ltb 0 w.pairs.remaining l ∙ sym (le-ltb 0 (many_left w) (omega arith)))

-- where no unit waits, a pair does
pub pair_left : (w : UnitWalk) → w.second ≡ None → 0 < many_left w → 0 < w.pairs.remaining
pair_left w e l = let h = many_by w None e in omega arith

pub left-none : (v : Voice) (fold : Bool) (sheet : List ℕ) (count : ℕ) (w : UnitWalk) → many_left w ≡ 0 → units_left v fold sheet count w ≡ []
left-none v fold sheet count w z = by w.second refl
  where
    by : (o : Option Unit) → w.second ≡ o → with_second o (units_coming v fold sheet count w.pairs) ≡ []
    by None e = coming-none v fold sheet count w.pairs (omega arith)
    by (Some u) e = let h = many_by w (Some u) e in absurd (omega arith)

pub starts-units : (sheet : List ℕ) (count : ℕ) (w : PairWalk)
    → (Walking sheet count w × (w.remaining + 1 ≡ count)) × ((sheet_of sheet).segments ≡ segment_read sheet w.left ∷ coming sheet count w)
    → StartsUnits sheet count (record { pairs = w; second = None })
starts-units sheet count w n =
    record {
      units = λ v fold. coming-first v fold sheet count w n.0.1 n.1;
      walking = λ frames. record { pairs = n.0.0; second = λ u e. absurd (let z : ◌≡◌ {A = ℕ} 0 1 = cc in omega arith) };
      many = omega (arith, n.0.1);
    }

module _ (file : List ℕ) (d : DiphoneVoice) (fold : Bool) (sheet : List ℕ) (count : ℕ) (w : UnitWalk) where
  abbrev with_half : Option Unit → List Unit
  with_half o = with_second o (units_coming (voice_of file) fold sheet count w.pairs)

  pub steps-second : (second : Unit) → w.second ≡ Some second → UnitWalking d.header.frames sheet count w
      → StepsUnit file d fold sheet count w (record { unit = second; walk = record { pairs = w.pairs; second = None } })
  steps-second second e u =
      let h = many_by w (Some second) e in
      record {
        units = ap with_half e;
        walking = record { pairs = u.pairs; second = λ v q. absurd (let z : ◌≡◌ {A = ℕ} 0 1 = cc in omega arith) };
        fewer = omega arith;
        inside = u.second second e;
      }

  pub steps_first : w.second ≡ None → (s : PairStep) → StepsPair file d fold sheet count w.pairs s
      → StepsUnit file d fold sheet count w (record { unit = s.units.first; walk = record { pairs = s.walk; second = Some s.units.second } })
  steps_first e s t =
      let h = many_by w None e in
      let f = t.fewer in
      record {
        units = ap with_half e ∙ t.units;
        walking = record { pairs = t.walking; second = λ v q. let r : s.units.second ≡ v = cc in subst (Inside d.header.frames) r t.second };
        fewer = omega arith;
        inside = t.first;
      }
