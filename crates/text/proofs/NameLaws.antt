-- `same` says that two names are equal, and how one stands to another.
use mathlib.Core.Path.{◌≡◌, refl, ap}
use mathlib.Core.Bool.{Bool, true, false, ◌&&◌}
use mathlib.Core.List.{List, [], ◌∷◌}
use Prim.Native.Nat.{ℕ, ◌+◌, ◌<◌}
use native.Mathlib.Omega.{arith}
use native.Mathlib.Numerals.{add-one}
use borrow.Author.Tests.{eqb-true, eq-eqb, ne_eqb, lt-ltb, le-ltb}
use lib.Dec.{eqb}
use lib.ListN.{length, drop, get_or}
use lib.Seq.{drop-cons}
use Rattle.std.specs.Cmp.Lexicographic.{pointwise, slice_cmp}
use Rattle.std.specs.Ordering.{nat_cmp}
use Rattle.std.proofs.lemmas.Bool.{cases_order}
use mathlib.Core.Logic.{inl, inr}
use Rattle.base.specs.Choice.{pick}
use Rattle.base.proofs.ListLaws.{and_left, and_right}
use Rattle.text.specs.Names.{same, before, order_of}
use Rattle.std.specs.declared.cmp.Ordering.{Ordering}
use Rattle.std.specs.declared.cmp.Ordering.TheVariants.{Less, Equal, Greater}

pub same-eq : (a b : List ℕ) → same a b ≡ true → a ≡ b
unfolding same
same-eq [] [] e = refl
same-eq [] (b ∷ bs) e = cc
same-eq (a ∷ as') [] e = cc
same-eq (a ∷ as') (b ∷ bs) e =
    let p = eqb-true a b (and_left (eqb a b) (same as' bs) e) in
    let q = same-eq as' bs (and_right (eqb a b) (same as' bs) e) in
    cc

pub same_refl : (a : List ℕ) → same a a ≡ true
unfolding same
same_refl [] = refl
same_refl (a ∷ as') = rw (eq-eqb a a refl) (same_refl as')

-- the library's own test of two slices
pub same_is : (a b : List ℕ) → pointwise eqb a b ≡ same a b
unfolding same
same_is [] [] = refl
same_is [] (b ∷ bs) = refl
same_is (a ∷ as') [] = refl
same_is (a ∷ as') (b ∷ bs) = ap (λ (t : Bool). eqb a b && t) (same_is as' bs)

-- a shorter name is another
pub same-short : (a b : List ℕ) → length a < length b → same a b ≡ false
unfolding same
same-short [] [] h = absurd (omega arith)
same-short [] (b ∷ bs) h = refl
same-short (a ∷ as') [] h = refl
same-short (a ∷ as') (b ∷ bs) h = rw (same-short as' bs (omega arith)) (go (eqb a b))
  where
    go : (t : Bool) → (t && false) ≡ false
    go true = refl
    go false = refl

-- the order says whether they are the same
abbrev pub is_same : Ordering → Bool
is_same Less = false
is_same Equal = true
is_same Greater = false

pub same-order : (a b : List ℕ) → is_same (order_of a b) ≡ same a b
unfolding order_of
same-order a b = go (same a b) (before a b)
  where
    go : (s t : Bool) → is_same (pick s Equal (pick t Less Greater)) ≡ s
    go true t = refl
    go false true = refl
    go false false = refl

-- the library's own comparison of two slices
pub order_is : (a b : List ℕ) → slice_cmp nat_cmp a b ≡ order_of a b
unfolding order_of same before
order_is [] [] = refl
order_is [] (b ∷ bs) = refl
order_is (a ∷ as') [] = refl
order_is (a ∷ as') (b ∷ bs) =
    elim (cases_order a b) [
      | inl e ↦ simp (eq-eqb a b e, le-ltb a b (omega arith)) (order_is as' bs)
      | inr (inl l) ↦ simp (ne_eqb a b (λ e. omega arith), lt-ltb a b l)
      | inr (inr g) ↦ simp (ne_eqb a b (λ e. omega arith), le-ltb a b (omega arith))
    ]

-- ---- two names from a place on

-- the smaller byte stands first
pub order-before : (a b : List ℕ) (i : ℕ) → i < length a → i < length b → get_or a i 0 < get_or b i 0 → order_of (drop i a) (drop i b) ≡ Less
unfolding order_of same before
order-before a b i ha hb l =
    rw (drop-cons a i 0 ha, drop-cons b i 0 hb)
    (simp (ne_eqb (get_or a i 0) (get_or b i 0) (λ e. omega arith), lt-ltb (get_or a i 0) (get_or b i 0) l))

pub order-after : (a b : List ℕ) (i : ℕ) → i < length a → i < length b → get_or b i 0 < get_or a i 0 → order_of (drop i a) (drop i b) ≡ Greater
unfolding order_of same before
order-after a b i ha hb l =
    rw (drop-cons a i 0 ha, drop-cons b i 0 hb)
    (simp (ne_eqb (get_or a i 0) (get_or b i 0) (λ e. omega arith), le-ltb (get_or a i 0) (get_or b i 0) (omega arith)))

-- equal bytes leave it to the rest
pub order-more : (a b : List ℕ) (i : ℕ) → i < length a → i < length b → get_or a i 0 ≡ get_or b i 0 → order_of (drop (i + 1) a) (drop (i + 1) b) ≡ order_of (drop i a) (drop i b)
unfolding order_of same before
order-more a b i ha hb e =
    rw (add-one i, drop-cons a i 0 ha, drop-cons b i 0 hb)
    (simp (eq-eqb (get_or a i 0) (get_or b i 0) e, le-ltb (get_or a i 0) (get_or b i 0) (omega arith)))
