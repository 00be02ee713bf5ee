-- What every element of a list is, and lists of numbers below a bound.
use mathlib.Core.List.{List, [], ◌∷◌, ◌++◌, map}
use Prim.Native.Nat.{ℕ, zero, suc, ◌<◌}
use lib.ListN.{take, drop, get_or}
use Rattle.base.specs.Lists.{part}
use Rattle.base.specs.Buffers.{flat, upto}

-- ---- every element

pub data Each {A : Type 0} (P : A → Type 0) : List A → Type 0 where
  nil : Each P []
  cons : {x : A} {xs : List A} → P x → Each P xs → Each P (x ∷ xs)

module _ {A : Type 0} where
  pub each_all : (P : A → Type 0) → ((x : A) → P x) → (xs : List A) → Each P xs
  each_all P p [] = nil
  each_all P p (x ∷ xs) = cons (p x) (each_all P p xs)

  pub each_append : (P : A → Type 0) (xs ys : List A) → Each P xs → Each P ys → Each P (xs ++ ys)
  each_append P [] ys nil e = e
  each_append P (x ∷ xs) ys (cons p d) e = cons p (each_append P xs ys d e)

  pub each_take : (P : A → Type 0) (n : ℕ) (xs : List A) → Each P xs → Each P (take n xs)
  each_take P zero xs e = nil
  each_take P (suc n) [] nil = nil
  each_take P (suc n) (x ∷ xs) (cons p e) = cons p (each_take P n xs e)

-- ---- numbers below b; a place past the end counts 0

abbrev pub Below : ℕ → List ℕ → Type 0
Below b xs = (i : ℕ) → get_or xs i 0 < b

module _ (b : ℕ) (positive : 0 < b) where
  pub below-append : (xs ys : List ℕ) → Below b xs → Below b ys → Below b (xs ++ ys)
  below-append [] ys h k i = k i
  below-append (x ∷ xs) ys h k zero = h 0
  below-append (x ∷ xs) ys h k (suc i) = below-append xs ys (λ j. h (suc j)) k i

  below_one : (x : ℕ) → x < b → Below b (x ∷ [])
  below_one x h zero = h
  below_one x h (suc i) = positive

  pub below-upto : (f : ℕ → ℕ) → ((i : ℕ) → f i < b) → (n : ℕ) → Below b (upto f n)
  unfolding upto
  below-upto f h zero i = positive
  below-upto f h (suc n) i = below-append (upto f n) (f n ∷ []) (below-upto f h n) (below_one (f n) (h n)) i

  below-take : (n : ℕ) (xs : List ℕ) → Below b xs → Below b (take n xs)
  below-take zero xs h i = positive
  below-take (suc n) [] h i = positive
  below-take (suc n) (x ∷ xs) h zero = h 0
  below-take (suc n) (x ∷ xs) h (suc i) = below-take n xs (λ j. h (suc j)) i

  below-drop : (n : ℕ) (xs : List ℕ) → Below b xs → Below b (drop n xs)
  below-drop zero xs h = h
  below-drop (suc n) [] h = h
  below-drop (suc n) (x ∷ xs) h = below-drop n xs (λ j. h (suc j))

  pub below-part : (xs : List ℕ) (at n : ℕ) → Below b xs → Below b (part xs at n)
  below-part xs at n h = below-take n (drop at xs) (below-drop at xs h)

  module _ {A : Type 0} where
    pub below-map : (f : A → ℕ) (xs : List A) → Each (λ (x : A). f x < b) xs → Below b (map f xs)
    below-map f [] nil i = positive
    below-map f (x ∷ xs) (cons h e) zero = h
    below-map f (x ∷ xs) (cons h e) (suc i) = below-map f xs e i

    pub below-flat : (f : A → List ℕ) (xs : List A) → Each (λ (x : A). Below b (f x)) xs → Below b (flat f xs)
    unfolding flat
    below-flat f [] nil i = positive
    below-flat f (x ∷ xs) (cons h e) i = below-append (f x) (flat f xs) h (below-flat f xs e) i
