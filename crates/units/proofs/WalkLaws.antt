-- The walk over a sheet's segments, and the units that are still to come.
use Rattle.std.specs.Prelude.{Ok}
use mathlib.Core.Path.{◌≡◌, refl, sym, ap, subst, ◌∙◌}
use mathlib.Core.Bool.{Bool, true, false, ◌||◌, true≢false}
use mathlib.Core.List.{List, [], ◌∷◌}
use Prim.Native.Nat.{ℕ, zero, suc, ◌+◌, ◌-◌, ◌≤◌, ◌<◌}
use native.Mathlib.Omega.{arith}
use borrow.Author.Tests.{ltb-false}
use lib.Dec.{ltb}
use lib.ListN.{length, take, drop, length-take}
use lib.Seq.{drop-drop}
use Rattle.base.proofs.ListLaws.{length_part}
use Rattle.sheet.specs.Sheet.{SegmentRead, Got, fails, gets, name, segment, sheet_of}
use Rattle.sheet.specs.Followers.{name_of}
use Rattle.sheet.specs.Answers.{reads, segment_read, SegmentSaid}
use Rattle.sheet.specs.Places.{is_read, answer_in, sheet_places}
use Rattle.sheet.specs.declared.Segment.{Segment}
use Rattle.sheet.specs.declared.Places.{Places}
use Rattle.sheet.proofs.SheetLaws.{came, formed}
use Rattle.sheet.proofs.WalkLaws.{Ahead, ahead-some, ahead_step}
use Rattle.sheet.proofs.ReadLaws.{sheet-ahead}
use Rattle.units.specs.declared.PairWalk.{PairWalk}
use Rattle.units.specs.Asked.{Named, Numbered}
use Rattle.units.specs.Walking.{list_in, segments_at, coming, Reached, Walking, Starts}

-- ---- a segment that was read has a short name

first-fails : (s t : Bool) → (s || t) ≡ false → s ≡ false
first-fails true t e = e
first-fails false t e = refl

name-short : (bs nm r : List ℕ) → name bs ≡ gets nm r → length nm ≤ 32
unfolding name
name-short bs nm r e =
    let a = came _ _ nm r e in
    let f = formed _ _ nm _ r a.after in
    let h = ltb-false 32 a.value (first-fails (ltb 32 a.value) _ f.0) in
    let l = length-take a.value a.rest in
    let n : length (take a.value a.rest) ≤ 32 = omega arith in
    subst (λ (m : List ℕ). length m ≤ 32) f.1 n

segment-short : (n : ℕ) (bs : List ℕ) (s : SegmentRead) (r : List ℕ) → segment n bs ≡ gets s r → length s.name ≤ 32
unfolding segment
segment-short n bs s r e =
    let a = came _ _ s r e in
    let b = came _ _ s r a.after in
    let c = came _ _ s r b.after in
    let q = formed (ltb n c.value) _ s _ r c.after in
    subst (λ (z : SegmentRead). length z.name ≤ 32) q.1 (name-short bs a.value a.rest a.is)

segment-named : (sheet : List ℕ) (count at next : ℕ) (s : Segment) → SegmentSaid sheet count (reads s next) (segment count (drop at sheet)) → Named sheet s
segment-named sheet count at next s i =
    let w = i.within.1.0 in
    let l = length_part sheet s.name.at s.name.len w in
    let h = segment-short count (drop at sheet) (segment_read sheet s) (drop next sheet) (sym i.same) in
    record { within = w; short = omega arith }

-- ---- one step of the walk

module _ (sheet : List ℕ) (count n at : ℕ) (r : is_read (segments_at sheet count n at) ≡ true) (some : 0 < n) where
  all-ahead : Ahead (segment count) sheet n at (list_in (segments_at sheet count n at))
  all-ahead = by (segments_at sheet count n at) refl r
    where
      by : (g : Got (List SegmentRead)) → segments_at sheet count n at ≡ g → is_read g ≡ true → Ahead (segment count) sheet n at (list_in g)
      by (fails c) e h = absurd (true≢false (sym h))
      by (gets xs bs) e h = record { rest = bs; is = e }

  pub walk-reads : is_read (segment count (drop at sheet)) ≡ true
  walk-reads = ahead-some (segment count) sheet n at _ (λ e. omega arith) all-ahead

  pub walk_step : (s : Segment) (next : ℕ) → SegmentSaid sheet count (reads s next) (segment count (drop at sheet))
      → let w : PairWalk = record { left = s; next = next; remaining = n - 1 } in
      (Reached sheet count w × (w.remaining + 1 ≡ n)) × (list_in (segments_at sheet count n at) ≡ segment_read sheet s ∷ coming sheet count w)
  walk_step s next i =
      let t = ahead_step (segment count) sheet n at _ s next (λ z. omega arith) all-ahead i in
      let g = t.ahead.is in (
        (record { named = segment-named sheet count at next s i; ahead = ap is_read g }, omega arith),
        t.whole ∙ ap (λ (xs : List SegmentRead). segment_read sheet s ∷ xs) (sym (ap list_in g)),
      )

-- the walk from the first segment on
module _ (sheet : List ℕ) (p : Places) (e : answer_in (sheet_places sheet) ≡ Ok p) where
  abbrev all : Got (List SegmentRead)
  all = segments_at sheet p.segments.count p.segments.count p.segments.at

  pub all_read : is_read all ≡ true
  all_read = ap is_read (sheet-ahead sheet p e).segments.is

  pub all_are : list_in all ≡ (sheet_of sheet).segments
  all_are = ap list_in (sheet-ahead sheet p e).segments.is

  pub starts_first : Starts sheet p.segments.count 0 p.segments.at
  starts_first =
      let c = p.segments.count in
      let e : c ≡ c - 0 = omega arith in
      record {
        ahead = subst (λ (n : ℕ). is_read (segments_at sheet c n p.segments.at) ≡ true) e all_read;
        list = sym (ap (λ (n : ℕ). list_in (segments_at sheet c n p.segments.at)) e) ∙ all_are;
      }

-- ---- the walk's place among all segments

-- one segment more is passed
drop-next : {A : Type 0} (l : List A) (j : ℕ) (a : A) (r : List A) → drop j l ≡ a ∷ r → drop (j + 1) l ≡ r
drop-next l j a r e = sym (drop-drop 1 j l) ∙ ap (drop 1) e

name-at : (ss : List SegmentRead) (j : ℕ) (s : SegmentRead) (r : List SegmentRead) → drop j ss ≡ s ∷ r → name_of ss (suc j) ≡ s.name
unfolding name_of
name-at [] zero s r e = absurd (let z : ◌≡◌ {A = ℕ} 0 1 = cc in omega arith)
name-at [] (suc j) s r e = absurd (let z : ◌≡◌ {A = ℕ} 0 1 = cc in omega arith)
name-at (t ∷ ss) zero s r e = let h : t ≡ s = cc in ap (λ (x : SegmentRead). x.name) h
name-at (t ∷ ss) (suc j) s r e = name-at ss j s r e

module _ (sheet : List ℕ) (count : ℕ) where
  abbrev Steps : PairWalk → ℕ → List SegmentRead → Type 0
  Steps x n xs = (Reached sheet count x × (x.remaining + 1 ≡ n)) × (xs ≡ segment_read sheet x.left ∷ coming sheet count x)

  pub walking-first : (x : PairWalk) → Steps x count (sheet_of sheet).segments → Walking sheet count x
  walking-first x s =
      let e : count - (x.remaining + 1) ≡ 0 = omega (arith, s.0.1) in
      record { reached = s.0.0; fewer = omega (arith, s.0.1); placed = ap (λ (j : ℕ). drop j (sheet_of sheet).segments) e ∙ s.1 }

  pub walking-next : (w x : PairWalk) → Walking sheet count w → Steps x w.remaining (coming sheet count w) → Walking sheet count x
  walking-next w x k s =
      let f = k.fewer in
      let e : count - (x.remaining + 1) ≡ count - (w.remaining + 1) + 1 = omega (arith, s.0.1) in
      record {
        reached = s.0.0;
        fewer = omega (arith, s.0.1);
        placed = ap (λ (j : ℕ). drop j (sheet_of sheet).segments) e ∙ drop-next (sheet_of sheet).segments (count - (w.remaining + 1)) _ _ k.placed ∙ s.1;
      }

  -- the number of the left segment
  pub walking-number : (x : PairWalk) → Walking sheet count x → Numbered sheet x.left (count - x.remaining)
  walking-number x k =
      let f = k.fewer in
      let e : count - x.remaining ≡ suc (count - (x.remaining + 1)) = omega arith in
      sym (ap (name_of (sheet_of sheet).segments) e ∙ name-at (sheet_of sheet).segments (count - (x.remaining + 1)) _ _ k.placed)

  -- the walk from a segment's place on
  pub starts-walk : (number at : ℕ) → Starts sheet count number at → number < count → (x : PairWalk) → Steps x (count - number) (list_in (segments_at sheet count (count - number) at))
      → Walking sheet count x × (number + (x.remaining + 1) ≡ count)
  starts-walk number at s l x t =
      let e : count - (x.remaining + 1) ≡ number = omega (arith, t.0.1) in
      let n : number + (x.remaining + 1) ≡ count = omega (arith, t.0.1) in
      (record { reached = t.0.0; fewer = omega arith; placed = ap (λ (j : ℕ). drop j (sheet_of sheet).segments) e ∙ sym s.list ∙ t.1 }, n)

  -- the place of the segment after the left one
  pub walking-starts : (w : PairWalk) → Walking sheet count w → Starts sheet count (count - w.remaining) w.next
  walking-starts w k =
      let f = k.fewer in
      let e : w.remaining ≡ count - (count - w.remaining) = omega arith in
      let d : count - w.remaining ≡ count - (w.remaining + 1) + 1 = omega arith in
      record {
        ahead = subst (λ (n : ℕ). is_read (segments_at sheet count n w.next) ≡ true) e k.reached.ahead;
        list = sym (ap (λ (n : ℕ). list_in (segments_at sheet count n w.next)) e)
            ∙ sym (ap (λ (j : ℕ). drop j (sheet_of sheet).segments) d ∙ drop-next (sheet_of sheet).segments (count - (w.remaining + 1)) _ _ k.placed);
      }
