-- What a name finds in an index.
use Rattle.std.specs.Prelude.{Some}
use mathlib.Core.Path.{◌≡◌, refl, sym, ap, ◌∙◌}
use mathlib.Core.Bool.{Bool, true, false, not}
use mathlib.Core.List.{List, [], ◌∷◌}
use Prim.Native.Nat.{ℕ, ◌≤◌}
use native.Mathlib.Omega.{arith}
use borrow.Author.Tests.{leb-true, not-true}
use lib.Dec.{leb}
use Rattle.base.specs.Choice.{pick}
use Rattle.base.proofs.ListLaws.{and_left, and_right}
use Rattle.text.specs.Names.{same}
use Rattle.text.proofs.NameLaws.{same-eq, same_refl}
use Rattle.voice.specs.Voice.{Entry, Placed, lookup, is_some}
use Rattle.voice.specs.Opening.{end_period, within_frames, distinct}
use Rattle.voice.specs.Extends.{Stands, here, there}

-- an entry that stands in the index under a name
pub record Finds (n : List ℕ) (ps : List Placed) (e : Entry) : Type 0 where
  pub stands : Stands e ps
  pub named : e.name ≡ n

pub lookup-finds : (n : List ℕ) (ps : List Placed) (e : Entry) → lookup n ps ≡ Some e → Finds n ps e
unfolding lookup
lookup-finds n [] e q = absurd (let z : ◌≡◌ {A = ℕ} 0 1 = cc in omega arith)
lookup-finds n (p ∷ ps) e q = by (same p.entry.name n) refl q (lookup-finds n ps e)
  where
    by : (t : Bool) → same p.entry.name n ≡ t → pick t (Some p.entry) (lookup n ps) ≡ Some e → (lookup n ps ≡ Some e → Finds n ps e) → Finds n (p ∷ ps) e
    by true s q ih = let d : p.entry ≡ e = cc in record { stands = here (sym d); named = ap (λ (x : Entry). x.name) (sym d) ∙ same-eq p.entry.name n s }
    by false s q ih = let d = ih q in record { stands = there d.stands; named = d.named }

-- where no name stands twice, what stands is found by its name
pub stands-found : (ps : List Placed) → distinct ps ≡ true → (e : Entry) → Stands e ps → lookup e.name ps ≡ Some e
unfolding lookup distinct
stands-found [] u e x = elim x [ ]
stands-found (p ∷ ps) u e (here q) = rw (q, same_refl p.entry.name)
stands-found (p ∷ ps) u e (there m) = by (same p.entry.name e.name) refl (stands-found ps (and_right (not (is_some (lookup p.entry.name ps))) (distinct ps) u) e m)
  where
    by : (t : Bool) → same p.entry.name e.name ≡ t → lookup e.name ps ≡ Some e → pick t (Some p.entry) (lookup e.name ps) ≡ Some e
    by true s ih =
        let a = not-true (is_some (lookup p.entry.name ps)) (and_left (not (is_some (lookup p.entry.name ps))) (distinct ps) u) in
        let c = same-eq p.entry.name e.name s in
        let d : lookup p.entry.name ps ≡ Some e = ap (λ (n : List ℕ). lookup n ps) c ∙ ih in
        let f : is_some (Some e) ≡ false = rw d at a in
        cc
    by false s ih = ih

-- its periods end within the frames
pub stands-within : (n : ℕ) (ps : List Placed) → within_frames n ps ≡ true → (e : Entry) → Stands e ps → end_period e ≤ n
unfolding within_frames
stands-within n [] w e x = elim x [ ]
stands-within n (p ∷ ps) w e (here q) = rw q (leb-true _ _ (and_left (leb (end_period p.entry) n) (within_frames n ps) w))
stands-within n (p ∷ ps) w e (there m) = stands-within n ps (and_right (leb (end_period p.entry) n) (within_frames n ps) w) e m
