-- Inner: Lists with the same elements.
use Rattle.std.specs.Prelude.{List, ◌∷◌}

-- the same elements in another order
pub data Perm {A : Type 0} : List A → List A → Type 0 where
  stay : {xs : List A} → Perm xs xs
  skip : (x : A) {xs ys : List A} → Perm xs ys → Perm (x ∷ xs) (x ∷ ys)
  swap : (x y : A) (xs : List A) → Perm (x ∷ y ∷ xs) (y ∷ x ∷ xs)
  then : {xs ys zs : List A} → Perm xs ys → Perm ys zs → Perm xs zs
