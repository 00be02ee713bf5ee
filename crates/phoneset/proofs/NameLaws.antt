-- Whether a name is one of a table's, as a search over the table finds it.
use Rattle.std.proofs.Common.{◌≡◌, ℕ, List, [], ◌∷◌, map, sym, refl, rules}
use Rattle.std.specs.Str.{bytes_eq}
use Rattle.std.specs.List.{list_any}
use Rattle.std.proofs.lemmas.Bool.Decides.{same_from_decides}
use Rattle.std.proofs.lemmas.Slice.Eq.{bytes_eq-Decides, compares_Decides}
use Rattle.text.specs.Names.{same, among}

same_is : (a b : List ℕ) → bytes_eq a b ≡ same b a
unfolding same
same_is a b =
    let d = bytes_eq-Decides a b in
    let e = compares_Decides same (search rules) b a in
    same_from_decides _ _ d (λ h. sym (e.0 h), λ h. e.1 (sym h))

pub any_among : {R : Type 0} (name_of : R → List ℕ) (name : List ℕ) (rows : List R) → list_any (λ r. bytes_eq (name_of r) name) rows ≡ among name (map name_of rows)
unfolding among
any_among name_of name [] = refl
any_among name_of name (r ∷ rows) = rw (same_is (name_of r) name, any_among name_of name rows)
