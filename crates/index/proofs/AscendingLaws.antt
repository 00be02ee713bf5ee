-- Where no name stands twice, sort puts the names in ascending order and finds the same.
use Rattle.std.specs.Prelude.{None, Option, Some}
use mathlib.Core.Path.{◌≡◌, refl, sym, ap, ◌∙◌}
use mathlib.Core.Bool.{Bool, true, false, not}
use mathlib.Core.List.{List, [], ◌∷◌}
use Prim.Native.Nat.{ℕ}
use native.Mathlib.Omega.{arith}
use borrow.Author.Tests.{not-true}
use lib.ListN.{length}
use Rattle.base.specs.Choice.{pick}
use Rattle.base.proofs.ListLaws.{and_left, and_right}
use Rattle.text.specs.Names.{same, before}
use Rattle.text.proofs.NameLaws.{same-eq, same_refl}
use Rattle.voice.specs.Voice.{Entry, Placed, entries_from, lookup, is_some, insert, sort}
use Rattle.voice.specs.Opening.{distinct}
use Rattle.index.specs.Index.{before_first, ascending}
use Rattle.index.proofs.OrderLaws.{not-both, before-neither, ascending-first, ascending-rest}
use Rattle.index.proofs.SortLaws.{insert-none, insert-here, insert-later, length-walk, length-sort}
use Rattle.index.proofs.TestLaws.{lookup-here, lookup-next}

first-insert : (n : List ℕ) (p : Placed) (qs : List Placed) → before n p.entry.name ≡ true → before_first n qs ≡ true → before_first n (insert p qs) ≡ true
unfolding insert
first-insert n p [] a b = a
first-insert n p (q ∷ qs) a b = go (before p.entry.name q.entry.name)
  where
    go : (t : Bool) → before_first n (pick t (p ∷ q ∷ qs) (q ∷ insert p qs)) ≡ true
    go true = a
    go false = b

ascending-cons : (p : Placed) (ps : List Placed) → before_first p.entry.name ps ≡ true → ascending ps ≡ true → ascending (p ∷ ps) ≡ true
unfolding ascending
ascending-cons p ps a b = rw (a, b)

-- a name that is not the first of a list, and is not found in it, is not found in the rest
pub other : (n : List ℕ) (q : Placed) (qs : List Placed) → lookup n (q ∷ qs) ≡ None → (same q.entry.name n ≡ false) × (lookup n qs ≡ None)
unfolding lookup
other n q qs e = go (same q.entry.name n) refl e
  where
    go : (t : Bool) → same q.entry.name n ≡ t → pick t (Some q.entry) (lookup n qs) ≡ None → (same q.entry.name n ≡ false) × (lookup n qs ≡ None)
    go true s u = let o : ◌≡◌ {A = ℕ} 0 1 = cc in absurd (omega arith)
    go false s u = (s, u)

pub differ : (a b : List ℕ) → same a b ≡ false → a ≡ b → ⊥
differ a b s e = not-both (same a b) (ap (same a) (sym e) ∙ same_refl a) s

-- what stands neither before nor at a name stands after it
pub after : (a b : List ℕ) → before a b ≡ false → (a ≡ b → ⊥) → before b a ≡ true
after a b p d = go (before b a) refl
  where
    go : (t : Bool) → before b a ≡ t → t ≡ true
    go true e = refl
    go false e = absurd (d (before-neither a b p e))

insert-ascending : (p : Placed) (qs : List Placed) → lookup p.entry.name qs ≡ None → ascending qs ≡ true → ascending (insert p qs) ≡ true
unfolding ascending
insert-ascending p [] e u = ap ascending (insert-none p)
insert-ascending p (q ∷ qs) e u =
    let o = other p.entry.name q qs e in
    go (before p.entry.name q.entry.name) refl o.0 (insert-ascending p qs o.1 (ascending-rest q qs u))
  where
    go : (t : Bool) → before p.entry.name q.entry.name ≡ t → same q.entry.name p.entry.name ≡ false → ascending (insert p qs) ≡ true → ascending (insert p (q ∷ qs)) ≡ true
    go true b s ih = ap ascending (insert-here p q qs b) ∙ ascending-cons p (q ∷ qs) b u
    go false b s ih =
        ap ascending (insert-later p q qs b)
        ∙ ascending-cons q (insert p qs) (first-insert q.entry.name p qs (after p.entry.name q.entry.name b (λ d. differ q.entry.name p.entry.name s (sym d))) (ascending-first q qs u)) ih

insert-lookup : (n : List ℕ) (p : Placed) (qs : List Placed) → lookup p.entry.name qs ≡ None → lookup n (insert p qs) ≡ lookup n (p ∷ qs)
insert-lookup n p [] e = ap (lookup n) (insert-none p)
insert-lookup n p (q ∷ qs) e =
    let o = other p.entry.name q qs e in
    go (before p.entry.name q.entry.name) refl o.0 (insert-lookup n p qs o.1) (same p.entry.name n) refl (same q.entry.name n) refl
  where
    go : (t : Bool) → before p.entry.name q.entry.name ≡ t → same q.entry.name p.entry.name ≡ false → lookup n (insert p qs) ≡ lookup n (p ∷ qs)
        → (u : Bool) → same p.entry.name n ≡ u → (v : Bool) → same q.entry.name n ≡ v → lookup n (insert p (q ∷ qs)) ≡ lookup n (p ∷ q ∷ qs)
    go true b s ih u f v g = ap (lookup n) (insert-here p q qs b)
    go false b s ih true f true g =
        not-both (same q.entry.name p.entry.name) (ap (same q.entry.name) (same-eq p.entry.name n f ∙ sym (same-eq q.entry.name n g)) ∙ same_refl q.entry.name) s
    go false b s ih false f true g =
        ap (lookup n) (insert-later p q qs b) ∙ lookup-here n q (insert p qs) g ∙ sym (lookup-next n p (q ∷ qs) f ∙ lookup-here n q qs g)
    go false b s ih true f false g =
        ap (lookup n) (insert-later p q qs b) ∙ lookup-next n q (insert p qs) g ∙ ih ∙ lookup-here n p qs f ∙ sym (lookup-here n p (q ∷ qs) f)
    go false b s ih false f false g =
        ap (lookup n) (insert-later p q qs b) ∙ lookup-next n q (insert p qs) g ∙ ih ∙ lookup-next n p qs f ∙ sym (lookup-next n p (q ∷ qs) f ∙ lookup-next n q qs g)

none_of : (o : Option Entry) → is_some o ≡ false → o ≡ None
none_of None e = refl
none_of (Some x) e = let o : ◌≡◌ {A = ℕ} 0 1 = cc in absurd (omega arith)

-- the tests of a list whose names are distinct
pub distinct-parts : (p : Placed) (ps : List Placed) → distinct (p ∷ ps) ≡ true → (lookup p.entry.name ps ≡ None) × (distinct ps ≡ true)
unfolding distinct
distinct-parts p ps u =
    let o = lookup p.entry.name ps in
    (none_of o (not-true (is_some o) (and_left (not (is_some o)) (distinct ps) u)), and_right (not (is_some o)) (distinct ps) u)

pub sort-lookup : (ps : List Placed) → distinct ps ≡ true → (n : List ℕ) → lookup n (sort ps) ≡ lookup n ps
unfolding sort
sort-lookup [] u n = refl
sort-lookup (p ∷ ps) u n =
    let d = distinct-parts p ps u in
    insert-lookup n p (sort ps) (sort-lookup ps d.1 p.entry.name ∙ d.0) ∙ by (same p.entry.name n) refl (sort-lookup ps d.1 n)
  where
    by : (t : Bool) → same p.entry.name n ≡ t → lookup n (sort ps) ≡ lookup n ps → lookup n (p ∷ sort ps) ≡ lookup n (p ∷ ps)
    by true e ih = lookup-here n p (sort ps) e ∙ sym (lookup-here n p ps e)
    by false e ih = lookup-next n p (sort ps) e ∙ ih ∙ sym (lookup-next n p ps e)

pub sort-ascending : (ps : List Placed) → distinct ps ≡ true → ascending (sort ps) ≡ true
unfolding sort ascending
sort-ascending [] u = refl
sort-ascending (p ∷ ps) u =
    let d = distinct-parts p ps u in
    insert-ascending p (sort ps) (sort-lookup ps d.1 p.entry.name ∙ d.0) (sort-ascending ps d.1)

pub length-sorted : (bs : List ℕ) (count : ℕ) → (entries_from count bs 0).whole ≡ true → length (sort (entries_from count bs 0).list) ≡ count
length-sorted bs count w = length-sort (entries_from count bs 0).list ∙ length-walk bs count 0 w
