-- Laws of `over`, `flat` and `upto`: what a loop that fills a buffer from the front needs.
use mathlib.Core.Path.{◌≡◌, refl, sym, ap, ◌∙◌}
use mathlib.Core.List.{List, [], ◌∷◌, ◌++◌, append_assoc, append-nil}
use mathlib.Core.Logic.{⊎_elim}
use Prim.Native.Nat.{ℕ, zero, suc, ◌+◌, ◌*◌, ◌≤◌, ◌<◌}
use native.Mathlib.Nat.{zero-add, mul-zero, mul-suc, eq-or-lt_of_le, le_of_suc-le-suc}
use native.Mathlib.Numerals.{add-one}
use native.Mathlib.Omega.{arith}
use lib.ListN.{length, take, drop, get_or, set, length-append, length-drop, drop_of_length-le, get_or-append}
use lib.Seq.{ext_get_or, get_or_at, take_at, drop_at, sets, sets-eq, take-append_seam, drop-append-add, drop-drop}
use Rattle.base.specs.Buffers.{over, flat, upto}

-- ---- over

module _ {A : Type 0} where
  pub over-nil : (d : List A) → over [] d ≡ d
  unfolding over
  over-nil d = refl

  pub over-all : (p d : List A) → length d ≤ length p → over p d ≡ p
  unfolding over
  over-all p d h = ap (λ (l : List A). p ++ l) (drop_of_length-le d h) ∙ append-nil p

  pub length_over : (p d : List A) → length p ≤ length d → length (over p d) ≡ length d
  unfolding over
  length_over p d h = simp (length-append, length-drop) (omega arith)

  pub take-over : (p d : List A) (n : ℕ) → length p ≡ n → take n (over p d) ≡ p
  unfolding over
  take-over p d n e = take_at p (drop (length p) d) n e

  pub drop-over : (p d : List A) (n : ℕ) → length p ≡ n → drop n (over p d) ≡ drop n d
  unfolding over
  drop-over p d n e = drop_at p (drop (length p) d) n e ∙ rw e

  -- more, stored where p ends
  pub over-more : (p vs d : List A) → length p + length vs ≤ length d → sets (over p d) (length p) vs ≡ over (p ++ vs) d
  unfolding over
  over-more p vs d h =
      let h' : length p + length vs ≤ length (p ++ drop (length p) d) = simp (length-append, length-drop) (omega arith) in
      sets-eq vs (p ++ drop (length p) d) (length p) h'
      ∙ simp (take-append_seam, drop-append-add, drop-drop, length-append)

  -- a part `&mut s[a..a + k]` that begins where q ends was lent, and came back as p
  pub over-part : (q p d : List A) (a k : ℕ) → length q ≡ a → length p ≡ k → take a (over q d) ++ (p ++ drop k (drop a (over q d))) ≡ over (q ++ p) d
  unfolding over
  over-part q p d a k e f = rw (take_at q (drop (length q) d) a e, drop_at q (drop (length q) d) a e, e, drop-drop, length-append, e, f, ← append_assoc)

  -- ---- stores of several elements, as what is still to be stored

  -- one part, then the rest
  pub sets-append : (l : List A) (i : ℕ) (p q : List A) → sets l i (p ++ q) ≡ sets (sets l i p) (i + length p) q
  sets-append l i [] q = let e : i + 0 ≡ i = omega arith in rw e
  sets-append l i (a ∷ p) q =
      let e : suc i + length p ≡ i + suc (length p) = omega arith in
      sets-append (set l i a) (suc i) p q ∙ ap (λ (n : ℕ). sets (sets (set l i a) (suc i) p) n q) e

  pub sets_over : (p d : List A) → length p ≤ length d → sets d 0 p ≡ over p d
  unfolding over
  sets_over p d h = sets-eq p d 0 (rw zero-add h) ∙ rw zero-add

-- ---- flat

module _ {A B : Type 0} (enc : A → List B) where
  pub flat_append : (p q : List A) → flat enc (p ++ q) ≡ flat enc p ++ flat enc q
  unfolding flat
  flat_append [] q = refl
  flat_append (x ∷ p) q = ap (λ (l : List B). enc x ++ l) (flat_append p q) ∙ sym (append_assoc (enc x) (flat enc p) (flat enc q))

  pub flat-snoc : (p : List A) (x : A) → flat enc (p ++ (x ∷ [])) ≡ flat enc p ++ enc x
  unfolding flat
  flat-snoc p x = flat_append p (x ∷ []) ∙ ap (λ (l : List B). flat enc p ++ l) (append-nil (enc x))

  -- elements of k each
  pub length-flat : (k : ℕ) → ((x : A) → length (enc x) ≡ k) → (p : List A) → length (flat enc p) ≡ k * length p
  unfolding flat
  length-flat k e [] = sym (mul-zero k)
  length-flat k e (x ∷ p) = length-append (enc x) (flat enc p) ∙ simp (e x, length-flat k e p, mul-suc) (omega arith)

-- ---- upto

module _ {A : Type 0} where
  pub length-upto : (f : ℕ → A) (n : ℕ) → length (upto f n) ≡ n
  unfolding upto
  length-upto f zero = refl
  length-upto f (suc n) = length-append (upto f n) (f n ∷ []) ∙ simp (length-upto f n) (omega arith)

  pub upto-more : (f : ℕ → A) (n : ℕ) → upto f (n + 1) ≡ upto f n ++ (f n ∷ [])
  unfolding upto
  upto-more f n = rw add-one

  pub upto-same : (f g : ℕ → A) (n : ℕ) → ((i : ℕ) → i < n → f i ≡ g i) → upto f n ≡ upto g n
  unfolding upto
  upto-same f g zero e = refl
  upto-same f g (suc n) e = rw (upto-same f g n (λ i h. e i (omega arith)), e n (omega arith))

  pub get_or-upto : (f : ℕ → A) (n i : ℕ) (d : A) → i < n → get_or (upto f n) i d ≡ f i
  unfolding upto
  get_or-upto f zero i d h = absurd (omega arith)
  get_or-upto f (suc n) i d h = ⊎_elim last (λ l. earlier l ∙ get_or-upto f n i d l) (eq-or-lt_of_le (le_of_suc-le-suc h))
    where
      last : i ≡ n → get_or (upto f n ++ (f n ∷ [])) i d ≡ f i
      last e = rw e (get_or_at (upto f n) (f n) [] d n (length-upto f n))

      earlier : i < n → get_or (upto f n ++ (f n ∷ [])) i d ≡ get_or (upto f n) i d
      earlier l = get_or-append (upto f n) (f n ∷ []) d i (rw length-upto l)

  -- a list is its elements in turn
  pub upto_is : (f : ℕ → A) (l : List A) (d : A) → ((i : ℕ) → i < length l → f i ≡ get_or l i d) → upto f (length l) ≡ l
  upto_is f l d e = ext_get_or d (upto f (length l)) l (length-upto f (length l)) (λ i h. let k : i < length l = rw length-upto at h in get_or-upto f (length l) i d k ∙ e i k)

-- ---- A loop that stores f 0, f 1, .. from the front, one element of k bytes a turn: what the buffer holds after n turns.

module _ {A B : Type 0} (k : ℕ) (enc : A → List B) (wide : (x : A) → length (enc x) ≡ k) (f : ℕ → A) (n : ℕ) (d : List B) where
  -- before the first turn
  pub filled_none : d ≡ over (flat enc (upto f 0)) d
  unfolding over upto flat
  filled_none = refl

  length-filled-part : length (flat enc (upto f n)) ≡ k * n
  length-filled-part = length-flat enc k wide (upto f n) ∙ ap (λ (m : ℕ). k * m) (length-upto f n)

  -- one turn
  pub filled_more : k * n + k ≤ length d → sets (over (flat enc (upto f n)) d) (k * n) (enc (f n)) ≡ over (flat enc (upto f (n + 1))) d
  filled_more h =
      let e : length (flat enc (upto f n)) ≡ k * n = length-filled-part in
      let g : length (flat enc (upto f n)) + length (enc (f n)) ≤ length d = rw (e, wide) h in
      let m : sets (over (flat enc (upto f n)) d) (length (flat enc (upto f n))) (enc (f n)) ≡ over (flat enc (upto f n) ++ enc (f n)) d =
      over-more (flat enc (upto f n)) (enc (f n)) d g in
      rw e at m ∙ ap (λ (l : List B). over l d) (sym (flat-snoc enc (upto f n) (f n)) ∙ ap (flat enc) (sym (upto-more f n)))

-- The same where a turn stores the element itself.
module _ {A : Type 0} (f : ℕ → A) (n : ℕ) (d : List A) where
  pub stored-none : d ≡ over (upto f 0) d
  unfolding over upto
  stored-none = refl

  pub stored_more : n < length d → set (over (upto f n) d) n (f n) ≡ over (upto f (n + 1)) d
  stored_more h =
      let e : length (upto f n) ≡ n = length-upto f n in
      let g : length (upto f n) + 1 ≤ length d = omega arith in
      let m : set (over (upto f n) d) (length (upto f n)) (f n) ≡ over (upto f n ++ (f n ∷ [])) d = over-more (upto f n) (f n ∷ []) d g in
      rw e at m ∙ ap (λ (l : List A). over l d) (sym (upto-more f n))

  pub length-stored : n ≤ length d → length (over (upto f n) d) ≡ length d
  length-stored h = length_over (upto f n) d (rw length-upto h)
