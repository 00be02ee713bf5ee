-- What a lent buffer holds after its front was filled.
use Rattle.std.specs.Prelude.{List, [], ◌∷◌, ◌++◌, ℕ, zero, suc, length, drop, None, Option, Some}

-- the new elements p, and then the rest of the old ones d
unfoldable pub over : {A : Type 0} → List A → List A → List A
over p d = p ++ drop (length p) d

-- the new elements over the old ones where there is no cause of a refusal, else the old ones alone
abbrev pub unless_refused : {A R : Type 0} → Option R → List A → List A → List A
unless_refused None new old = over new old
unless_refused (Some r) new old = old

-- what enc gives for each element, one after the other
unfoldable pub flat : {A B : Type 0} → (A → List B) → List A → List B
flat enc [] = []
flat enc (x ∷ xs) = enc x ++ flat enc xs

-- f 0, f 1, .. f (n - 1)
unfoldable pub upto : {A : Type 0} → (ℕ → A) → ℕ → List A
upto f zero = []
upto f (suc n) = upto f n ++ (f n ∷ [])
