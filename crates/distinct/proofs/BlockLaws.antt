-- The entries of an index, block by block.
use Rattle.std.specs.Prelude.{Some}
use mathlib.Core.Path.{◌≡◌, refl, sym, ap, ◌∙◌}
use mathlib.Core.Bool.{Bool, true, false, not, ◌&&◌, ◌||◌}
use mathlib.Core.List.{List, [], ◌∷◌, ◌++◌, map}
use Prim.Native.Nat.{ℕ, zero, suc, ◌+◌, ◌-◌, ◌≤◌}
use native.Mathlib.Omega.{arith}
use borrow.Author.Tests.{le-leb, lt-leb}
use lib.Dec.{leb}
use lib.ListN.{length, take, drop, get_or, length-drop}
use lib.Seq.{get_or-drop, drop-drop, take_all}
use Rattle.base.specs.Choice.{pick}
use Rattle.base.specs.Bytes.{little_endian}
use Rattle.base.proofs.CaseLaws.{by_order}
use Rattle.text.specs.Names.{same}
use Rattle.text.proofs.NameLaws.{same-eq, same_refl}
use Rattle.voice.specs.Voice.{Entry, Placed, Index, entry_at, next_entry, whole_entry, entries_from, lookup, is_some}
use Rattle.voice.specs.Opening.{distinct}
use Rattle.distinct.specs.Blocks.{apart, block_differs}
use Rattle.index.specs.Index.{end_of}
use Rattle.index.proofs.OrderLaws.{not-both}
use Rattle.index.proofs.WalkLaws.{placed, walk-cut, Walk}
use Rattle.index.proofs.EndLaws.{walk-one, walk_split}

-- ---- two lists

same-sym : (a b : List ℕ) → same a b ≡ same b a
same-sym a b = go (same a b) refl (same b a) refl
  where
    go : (t : Bool) → same a b ≡ t → (u : Bool) → same b a ≡ u → t ≡ u
    go true e true f = refl
    go false e false f = refl
    go true e false f = not-both (same b a) (ap (same b) (same-eq a b e) ∙ same_refl b) f
    go false e true f = not-both (same a b) (ap (same a) (same-eq b a f) ∙ same_refl a) e

found-cons : (n : List ℕ) (p : Placed) (ps : List Placed) → is_some (lookup n (p ∷ ps)) ≡ (same p.entry.name n || is_some (lookup n ps))
unfolding lookup
found-cons n p ps = go (same p.entry.name n)
  where
    go : (t : Bool) → is_some (pick t (Some p.entry) (lookup n ps)) ≡ (t || is_some (lookup n ps))
    go true = refl
    go false = refl

or_assoc : (a b c : Bool) → ((a || b) || c) ≡ (a || (b || c))
or_assoc true b c = refl
or_assoc false b c = refl

found-append : (n : List ℕ) (ps qs : List Placed) → is_some (lookup n (ps ++ qs)) ≡ (is_some (lookup n ps) || is_some (lookup n qs))
unfolding lookup
found-append n [] qs = refl
found-append n (p ∷ ps) qs =
    found-cons n p (ps ++ qs)
    ∙ ap (λ (t : Bool). same p.entry.name n || t) (found-append n ps qs)
    ∙ sym (ap (λ (t : Bool). t || is_some (lookup n qs)) (found-cons n p ps) ∙ or_assoc (same p.entry.name n) (is_some (lookup n ps)) (is_some (lookup n qs)))

mixed : (s a b c : Bool) → (not (s || a) && (not b && c)) ≡ (not (s || b) && (not a && c))
mixed true a b c = refl
mixed false true true c = refl
mixed false true false c = refl
mixed false false true c = refl
mixed false false false c = refl

-- the first of the block stands apart, and the others do
apart_cons : (p : Placed) (ps qs : List Placed) → apart (p ∷ ps) qs ≡ (not (is_some (lookup p.entry.name qs)) && apart ps qs)
unfolding apart lookup
apart_cons p ps [] = refl
apart_cons p ps (q ∷ qs) =
    ap (λ (t : Bool). not t && apart (p ∷ ps) qs) (found-cons q.entry.name p ps)
    ∙ ap (λ (t : Bool). not (same p.entry.name q.entry.name || is_some (lookup q.entry.name ps)) && t) (apart_cons p ps qs)
    ∙ mixed (same p.entry.name q.entry.name) (is_some (lookup q.entry.name ps)) (is_some (lookup p.entry.name qs)) (apart ps qs)
    ∙ ap (λ (t : Bool). not (t || is_some (lookup p.entry.name qs)) && (not (is_some (lookup q.entry.name ps)) && apart ps qs)) (same-sym p.entry.name q.entry.name)
    ∙ ap (λ (t : Bool). not t && (not (is_some (lookup q.entry.name ps)) && apart ps qs)) (sym (found-cons p.entry.name q qs))

apart_none : (qs : List Placed) → apart [] qs ≡ true
unfolding apart lookup
apart_none [] = refl
apart_none (q ∷ qs) = apart_none qs

joined : (a b c d e : Bool) → (not (a || b) && ((c && d) && e)) ≡ (((not a && c) && (not b && d)) && e)
joined true b c d e = refl
joined false true true d e = refl
joined false true false d e = refl
joined false false true d e = refl
joined false false false d e = refl

pub distinct_append : (ps qs : List Placed) → distinct (ps ++ qs) ≡ ((distinct ps && apart ps qs) && distinct qs)
unfolding distinct
distinct_append [] qs = ap (λ (t : Bool). t && distinct qs) (sym (apart_none qs))
distinct_append (p ∷ ps) qs =
    ap (λ (t : Bool). not t && distinct (ps ++ qs)) (found-append p.entry.name ps qs)
    ∙ ap (λ (t : Bool). not (is_some (lookup p.entry.name ps) || is_some (lookup p.entry.name qs)) && t) (distinct_append ps qs)
    ∙ joined (is_some (lookup p.entry.name ps)) (is_some (lookup p.entry.name qs)) (distinct ps) (apart ps qs) (distinct qs)
    ∙ ap (λ (t : Bool). ((not (is_some (lookup p.entry.name ps)) && distinct ps) && t) && distinct qs) (sym (apart_cons p ps qs))

-- ---- the entries of a part that begins at a place

abbrev moved : ℕ → Placed → Placed
moved at p = record { at = at + p.at; entry = p.entry }

lookup-moved : (at : ℕ) (n : List ℕ) (ps : List Placed) → lookup n (map (moved at) ps) ≡ lookup n ps
unfolding lookup
lookup-moved at n [] = refl
lookup-moved at n (p ∷ ps) = rw (lookup-moved at n ps)

distinct-moved : (at : ℕ) (ps : List Placed) → distinct (map (moved at) ps) ≡ distinct ps
unfolding distinct
distinct-moved at [] = refl
distinct-moved at (p ∷ ps) = rw (lookup-moved at p.entry.name ps, distinct-moved at ps)

module _ (bs : List ℕ) (at : ℕ) (h : at ≤ length bs) where
  number-moved : (n k : ℕ) → little_endian n (drop at bs) k ≡ little_endian n bs (at + k)
  unfolding little_endian
  number-moved zero k = refl
  number-moved (suc n) k = let e : at + suc k ≡ suc (at + k) = omega arith in rw (get_or-drop at bs k 0, number-moved n (suc k), e)

  entry-moved : (k : ℕ) → entry_at (drop at bs) k ≡ entry_at bs (at + k)
  unfolding entry_at
  entry-moved k =
      let n = get_or bs (at + k) 0 in
      let e : at + (k + 1) ≡ at + k + 1 = omega arith in
      let a : at + (k + 1 + n) ≡ at + k + 1 + n = omega arith in
      let b : at + (k + 3 + n) ≡ at + k + 3 + n = omega arith in
      let c : at + (k + 4 + n) ≡ at + k + 4 + n = omega arith in
      rw (get_or-drop at bs k 0, drop-drop (k + 1) at bs, e, number-moved 2 (k + 1 + n), a, get_or-drop at bs (k + 3 + n) 0, b, get_or-drop at bs (k + 4 + n) 0, c)

  next-moved : (k : ℕ) → at + next_entry (drop at bs) k ≡ next_entry bs (at + k)
  next-moved k = rw (get_or-drop at bs k 0) (omega arith)

  whole-moved : (k : ℕ) → whole_entry (drop at bs) k ≡ whole_entry bs (at + k)
  unfolding whole_entry
  whole-moved k = rw (bound, entry-moved k)
    where
      bound : leb (next_entry (drop at bs) k) (length (drop at bs)) ≡ leb (next_entry bs (at + k)) (length bs)
      bound =
          let e = next-moved k in
          let l : length (drop at bs) ≡ length bs - at = length-drop at bs in
          by_order (length bs) (next_entry bs (at + k))
          (λ g. lt-leb (next_entry (drop at bs) k) (length (drop at bs)) (omega arith) ∙ sym (lt-leb (next_entry bs (at + k)) (length bs) g))
          (λ g. le-leb (next_entry (drop at bs) k) (length (drop at bs)) (omega arith) ∙ sym (le-leb (next_entry bs (at + k)) (length bs) g))

  pub record Moved (n k : ℕ) : Type 0 where
    pub whole : (entries_from n (drop at bs) k).whole ≡ (entries_from n bs (at + k)).whole
    pub list : map (moved at) (entries_from n (drop at bs) k).list ≡ (entries_from n bs (at + k)).list

  pub walk-moved : (n k : ℕ) → Moved n k
  unfolding entries_from
  walk-moved zero k = record { whole = refl; list = refl }
  walk-moved (suc n) k = go (whole_entry bs (at + k)) refl (walk-moved n (next_entry (drop at bs) k))
    where
      go : (t : Bool) → whole_entry bs (at + k) ≡ t → Moved n (next_entry (drop at bs) k) → Moved (suc n) k
      go true e ih =
          let g = next-moved k in
          let one = walk-one (drop at bs) n k (whole-moved k ∙ e) in
          let two = walk-one bs n (at + k) e in
          record {
            whole = ap (λ (i : Index). i.whole) one ∙ ih.whole ∙ ap (λ (m : ℕ). (entries_from n bs m).whole) g ∙ sym (ap (λ (i : Index). i.whole) two);
            list =
                ap (λ (i : Index). map (moved at) i.list) one
                ∙ ap (λ (x : Entry). record { at = at + k; entry = x } ∷ map (moved at) (entries_from n (drop at bs) (next_entry (drop at bs) k)).list) (entry-moved k)
                ∙ ap (λ (l : List Placed). placed bs (at + k) ∷ l) (ih.list ∙ ap (λ (m : ℕ). (entries_from n bs m).list) g)
                ∙ sym (ap (λ (i : Index). i.list) two);
          }
      go false e ih =
          let one = walk-cut (drop at bs) (suc n) k (omega arith) (whole-moved k ∙ e) in
          let two = walk-cut bs (suc n) (at + k) (omega arith) e in
          record {
            whole = ap (λ (i : Index). i.whole) one ∙ sym (ap (λ (i : Index). i.whole) two);
            list = ap (λ (i : Index). map (moved at) i.list) one ∙ sym (ap (λ (i : Index). i.list) two);
          }

-- ---- one block

module _ (bs : List ℕ) (at left m : ℕ) (h : at ≤ length bs) (l : m ≤ left) (w : (entries_from left bs at).whole ≡ true) where
  pub record Block : Type 0 where
    pub first : (entries_from m (drop at bs) 0).whole ≡ true
    pub second : (entries_from (left - m) (drop at bs) (end_of m (drop at bs) 0)).whole ≡ true
    pub next : (entries_from (left - m) bs (at + end_of m (drop at bs) 0)).whole ≡ true
    pub all : distinct (entries_from left bs at).list
        ≡ (block_differs (drop at bs) m (left - m) (end_of m (drop at bs) 0) && distinct (entries_from (left - m) bs (at + end_of m (drop at bs) 0)).list)

  pub block : Block
  block =
      let rest = drop at bs in
      let e : at + 0 ≡ at = omega arith in
      let f : m + (left - m) ≡ left = omega arith in
      let end = end_of m rest 0 in
      let o = walk-moved bs at h left 0 in
      let ow : (entries_from left rest 0).whole ≡ (entries_from left bs at).whole = o.whole ∙ ap (λ (k : ℕ). (entries_from left bs k).whole) e in
      let ol : map (moved at) (entries_from left rest 0).list ≡ (entries_from left bs at).list = o.list ∙ ap (λ (k : ℕ). (entries_from left bs k).list) e in
      let s = walk_split rest m (left - m) 0 (ap (λ (k : ℕ). (entries_from k rest 0).whole) f ∙ ow ∙ w) in
      let sl = sym (ap (λ (k : ℕ). (entries_from k rest 0).list) f) ∙ s.list in
      let n = walk-moved bs at h (left - m) end in
      record {
        first = s.first;
        second = s.second;
        next = sym n.whole ∙ s.second;
        all = ap distinct (sym ol) ∙ distinct-moved at (entries_from left rest 0).list ∙ ap distinct sl
            ∙ distinct_append (entries_from m rest 0).list (entries_from (left - m) rest end).list
            ∙ ap (λ (t : Bool). block_differs rest m (left - m) end && t) (sym (distinct-moved at (entries_from (left - m) rest end).list) ∙ ap distinct n.list);
      }

-- ---- later names, one at a time

pub apart-end : (ps : List Placed) → apart ps [] ≡ true
unfolding apart
apart-end ps = refl

module _ (ps : List Placed) (q : Placed) (qs : List Placed) where
  pub apart-met : is_some (lookup q.entry.name ps) ≡ true → apart ps (q ∷ qs) ≡ false
  unfolding apart
  apart-met e = rw e

  pub apart_more : is_some (lookup q.entry.name ps) ≡ false → apart ps (q ∷ qs) ≡ apart ps qs
  unfolding apart
  apart_more e = rw e

-- ---- one turn of the walk over blocks

module _ (bs : List ℕ) (at : ℕ) where
  -- the part that begins at a place
  pub rest-is : take (length bs - at) (drop at bs) ≡ drop at bs
  rest-is = take_all (length bs - at) (drop at bs) (rw length-drop (omega arith))

  module _ (x : Bool) (left m : ℕ) (h : at ≤ length bs) (w : Walk bs distinct x left at) (l : m ≤ left) (rest : List ℕ) (e : rest ≡ drop at bs) where
    pub block-first : (entries_from m rest 0).whole ≡ true
    block-first = rw e (block bs at left m h l w.whole).first

    pub record Next (end : ℕ) : Type 0 where
      pub second : (entries_from (left - m) rest end).whole ≡ true
      pub within : at + end ≤ length bs
      pub more : (t : Bool) → t ≡ block_differs rest m (left - m) end → t ≡ true → Walk bs distinct x (left - m) (at + end)
      pub stop : (t : Bool) → t ≡ block_differs rest m (left - m) end → t ≡ false → false ≡ x

    pub next-block : (end : ℕ) → (end ≡ end_of m rest 0) × (end ≤ length rest) → Next end
    next-block end f =
        let n : length rest ≡ length bs - at = ap length e ∙ length-drop at bs in
        let b = block bs at left m h l w.whole in
        let g : end ≡ end_of m (drop at bs) 0 = f.0 ∙ ap (λ (r : List ℕ). end_of m r 0) e in
        record {
          second = rw (e, g) b.second;
          within = omega (arith, f.1);
          more = λ t u v. rw g (record {
            whole = b.next;
            same = sym (b.all ∙ ap (λ (s : Bool). s && distinct (entries_from (left - m) bs (at + end_of m (drop at bs) 0)).list) (sym (rw (e, g) at u) ∙ v)) ∙ w.same;
          });
          stop = λ t u v. sym (b.all ∙ ap (λ (s : Bool). s && distinct (entries_from (left - m) bs (at + end_of m (drop at bs) 0)).list) (sym (rw (e, g) at u) ∙ v)) ∙ w.same;
        }
