-- Lists with the same elements; where no name stands twice they are sorted alike.
use Rattle.std.specs.Prelude.{None}
use mathlib.Core.Path.{◌≡◌, refl, sym, ap, ◌∙◌}
use mathlib.Core.Bool.{Bool, true, false}
use mathlib.Core.List.{List, [], ◌∷◌}
use Prim.Native.Nat.{ℕ}
use Rattle.base.specs.Perm.{Perm, stay, skip, swap, then}
use Rattle.text.specs.Names.{same, before}
use Rattle.text.proofs.NameLaws.{same-eq, same_refl}
use Rattle.voice.specs.Voice.{Placed, lookup, insert, sort}
use Rattle.voice.specs.Opening.{distinct}
use Rattle.index.specs.Index.{before_first, ascending}
use Rattle.index.proofs.OrderLaws.{not-both, before_self, before-trans, ascending-first, ascending-rest, ascending-distinct}
use Rattle.index.proofs.SortLaws.{insert-none, insert-here, insert-later}
use Rattle.index.proofs.TestLaws.{lookup-next}
use Rattle.index.proofs.AscendingLaws.{other, differ, after, distinct-parts, sort-ascending}

-- ---- two insertions, in either order

module _ (x y : Placed) (b : before x.entry.name y.entry.name ≡ true) where
  not_back : before y.entry.name x.entry.name ≡ false
  not_back = go (before y.entry.name x.entry.name) refl
    where
      go : (t : Bool) → before y.entry.name x.entry.name ≡ t → t ≡ false
      go true e = not-both (before x.entry.name x.entry.name) (before-trans x.entry.name y.entry.name x.entry.name b e) (before_self x.entry.name)
      go false e = refl

  insert-ordered : (s : List Placed) → insert x (insert y s) ≡ insert y (insert x s)
  insert-ordered [] =
      ap (insert x) (insert-none y) ∙ insert-here x y [] b
      ∙ sym (ap (insert y) (insert-none x) ∙ insert-later y x [] not_back ∙ ap (λ (l : List Placed). x ∷ l) (insert-none y))
  insert-ordered (q ∷ qs) = go (before y.entry.name q.entry.name) refl (before x.entry.name q.entry.name) refl (insert-ordered qs)
    where
      go : (t : Bool) → before y.entry.name q.entry.name ≡ t → (u : Bool) → before x.entry.name q.entry.name ≡ u
          → insert x (insert y qs) ≡ insert y (insert x qs) → insert x (insert y (q ∷ qs)) ≡ insert y (insert x (q ∷ qs))
      go true e u f ih =
          let g = before-trans x.entry.name y.entry.name q.entry.name b e in
          ap (insert x) (insert-here y q qs e) ∙ insert-here x y (q ∷ qs) b
          ∙ sym (ap (insert y) (insert-here x q qs g) ∙ insert-later y x (q ∷ qs) not_back ∙ ap (λ (l : List Placed). x ∷ l) (insert-here y q qs e))
      go false e true f ih =
          ap (insert x) (insert-later y q qs e) ∙ insert-here x q (insert y qs) f
          ∙ sym (ap (insert y) (insert-here x q qs f) ∙ insert-later y x (q ∷ qs) not_back ∙ ap (λ (l : List Placed). x ∷ l) (insert-later y q qs e))
      go false e false f ih =
          ap (insert x) (insert-later y q qs e) ∙ insert-later x q (insert y qs) f ∙ ap (λ (l : List Placed). q ∷ l) ih
          ∙ sym (ap (insert y) (insert-later x q qs f) ∙ insert-later y q (insert x qs) e)

insert-either : (x y : Placed) → same x.entry.name y.entry.name ≡ false → (s : List Placed) → insert x (insert y s) ≡ insert y (insert x s)
insert-either x y d s = go (before x.entry.name y.entry.name) refl
  where
    go : (t : Bool) → before x.entry.name y.entry.name ≡ t → insert x (insert y s) ≡ insert y (insert x s)
    go true e = insert-ordered x y e s
    go false e = sym (insert-ordered y x (after x.entry.name y.entry.name e (differ x.entry.name y.entry.name d)) s)

-- ---- the same names

same_back : (a b : List ℕ) → same a b ≡ false → same b a ≡ false
same_back a b d = go (same b a) refl
  where
    go : (t : Bool) → same b a ≡ t → t ≡ false
    go true e = not-both (same a b) (ap (same a) (same-eq b a e) ∙ same_refl a) d
    go false e = refl

pub perm-missing : {ps qs : List Placed} → Perm ps qs → (n : List ℕ) → lookup n qs ≡ None → lookup n ps ≡ None
perm-missing stay n e = e
perm-missing (skip x {xs} {ys} p) n e = let o = other n x ys e in lookup-next n x xs o.0 ∙ perm-missing p n o.1
perm-missing (swap x y xs) n e =
    let o = other n y (x ∷ xs) e in
    let u = other n x xs o.1 in
    lookup-next n x (y ∷ xs) u.0 ∙ lookup-next n y xs o.0 ∙ u.1
perm-missing (then p q) n e = perm-missing p n (perm-missing q n e)

distinct_cons : (p : Placed) (ps : List Placed) → lookup p.entry.name ps ≡ None → distinct ps ≡ true → distinct (p ∷ ps) ≡ true
unfolding distinct
distinct_cons p ps e u = rw (e, u)

-- where no name of one stands twice, none of the other does, and they are sorted alike
pub perm-sort : {ps qs : List Placed} → Perm ps qs → distinct qs ≡ true → (distinct ps ≡ true) × (sort ps ≡ sort qs)
unfolding sort
perm-sort stay u = (u, refl)
perm-sort (skip x {xs} {ys} p) u =
    let d = distinct-parts x ys u in
    let h = perm-sort p d.1 in
    (distinct_cons x xs (perm-missing p x.entry.name d.0) h.0, ap (insert x) h.1)
perm-sort (swap x y xs) u =
    let d = distinct-parts y (x ∷ xs) u in
    let o = other y.entry.name x xs d.0 in
    let e = distinct-parts x xs d.1 in
    let m : lookup x.entry.name (y ∷ xs) ≡ None = lookup-next x.entry.name y xs (same_back x.entry.name y.entry.name o.0) ∙ e.0 in
    (distinct_cons x (y ∷ xs) m (distinct_cons y xs o.1 e.1), insert-either x y o.0 (sort xs))
perm-sort (then p q) u =
    let h = perm-sort q u in
    let k = perm-sort p h.0 in
    (k.0, k.1 ∙ h.1)

-- ---- lists in order

insert-first : (p : Placed) (ps : List Placed) → before_first p.entry.name ps ≡ true → insert p ps ≡ p ∷ ps
insert-first p [] b = insert-none p
insert-first p (q ∷ qs) b = insert-here p q qs b

sort-ordered : (ps : List Placed) → ascending ps ≡ true → sort ps ≡ ps
unfolding sort
sort-ordered [] u = refl
sort-ordered (p ∷ ps) u = ap (insert p) (sort-ordered ps (ascending-rest p ps u)) ∙ insert-first p ps (ascending-first p ps u)

-- the same elements in ascending order are the sorted list
pub ordered-sort : {ps qs : List Placed} → Perm ps qs → ascending qs ≡ true → qs ≡ sort ps
ordered-sort {ps} {qs} p u = sym ((perm-sort p (ascending-distinct qs u)).1 ∙ sort-ordered qs u)

-- ---- a sorted list has the same elements

perm-insert : (p : Placed) (qs : List Placed) → Perm (p ∷ qs) (insert p qs)
perm-insert p [] = rw (insert-none p) stay
perm-insert p (q ∷ qs) = go (before p.entry.name q.entry.name) refl (perm-insert p qs)
  where
    go : (t : Bool) → before p.entry.name q.entry.name ≡ t → Perm (p ∷ qs) (insert p qs) → Perm (p ∷ q ∷ qs) (insert p (q ∷ qs))
    go true e ih = rw (insert-here p q qs e) stay
    go false e ih = rw (insert-later p q qs e) (then (swap p q qs) (skip q ih))

pub perm-sorted : (ps : List Placed) → Perm ps (sort ps)
unfolding sort
perm-sorted [] = stay
perm-sorted (p ∷ ps) = then (skip p (perm-sorted ps)) (perm-insert p (sort ps))

-- names in order once sorted: none stands twice
pub sorted-distinct : (ps : List Placed) → ascending (sort ps) ≡ distinct ps
sorted-distinct ps = go (ascending (sort ps)) refl (distinct ps) refl
  where
    go : (t : Bool) → ascending (sort ps) ≡ t → (u : Bool) → distinct ps ≡ u → t ≡ u
    go true e u f = sym (perm-sort (perm-sorted ps) (ascending-distinct (sort ps) e)).0 ∙ f
    go false e true f = sym (sym (sort-ascending ps f) ∙ e)
    go false e false f = refl
