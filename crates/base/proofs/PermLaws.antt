-- Lists with the same elements.
use mathlib.Core.Path.{◌≡◌, refl, ap, ◌∙◌}
use mathlib.Core.List.{List, [], ◌∷◌, ◌++◌}
use Prim.Native.Nat.{suc}
use lib.ListN.{length}
use Rattle.base.specs.Perm.{Perm, stay, skip, swap, then}
use Rattle.base.proofs.BoundLaws.{Each, cons}

module _ {A : Type 0} where
  pub perm-length : {xs ys : List A} → Perm xs ys → length xs ≡ length ys
  perm-length stay = refl
  perm-length (skip x p) = ap suc (perm-length p)
  perm-length (swap x y xs) = refl
  perm-length (then p q) = perm-length p ∙ perm-length q

  pub perm-back : {xs ys : List A} → Perm xs ys → Perm ys xs
  perm-back stay = stay
  perm-back (skip x p) = skip x (perm-back p)
  perm-back (swap x y xs) = swap y x xs
  perm-back (then p q) = then (perm-back q) (perm-back p)

  pub perm-each : (P : A → Type 0) {xs ys : List A} → Perm xs ys → Each P xs → Each P ys
  perm-each P stay e = e
  perm-each P (skip x p) (cons h e) = cons h (perm-each P p e)
  perm-each P (swap x y xs) (cons h (cons k e)) = cons k (cons h e)
  perm-each P (then p q) e = perm-each P q (perm-each P p e)

  perm-front : (f : List A) {xs ys : List A} → Perm xs ys → Perm (f ++ xs) (f ++ ys)
  perm-front [] p = p
  perm-front (x ∷ f) p = skip x (perm-front f p)

  perm_in : (x : A) (m r : List A) → Perm (x ∷ (m ++ r)) (m ++ (x ∷ r))
  perm_in x [] r = stay
  perm_in x (y ∷ m) r = then (swap x y (m ++ r)) (skip y (perm_in x m r))

  -- two elements exchanged
  pub perm-exchange : (f : List A) (x : A) (m : List A) (y : A) (r : List A)
      → Perm (f ++ (x ∷ (m ++ (y ∷ r)))) (f ++ (y ∷ (m ++ (x ∷ r))))
  perm-exchange f x m y r =
      perm-front f (then (skip x (perm-back (perm_in y m r))) (then (swap x y (m ++ r)) (skip y (perm_in x m r))))
