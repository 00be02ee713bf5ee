-- The ring holds the last outputs: what it has k + 1 back is what the list of all outputs, newest first, has at k.
use mathlib.Core.Path.{◌≡◌, refl, sym, ap, ◌∙◌}
use mathlib.Core.Logic.{◌⊎◌, inl, inr, ⊎_elim}
use mathlib.Core.List.{List, [], ◌∷◌}
use Prim.Native.Nat.{ℕ, zero, suc, ◌+◌, ◌-◌, ◌≤◌, ◌<◌}
use native.Mathlib.Nat.{eq-or-lt_of_le}
use native.Mathlib.Omega.{arith}
use borrow.Author.Tests.{eq-eqb, ne_eqb}
use lib.ListN.{length, get_or, set, length-set}
use lib.Seq.{get_or-set_same, get_or-set_other}
use Rattle.lpc.specs.Filter.{Filter, back, outputs, samples}
use Rattle.lpc.specs.Ring.{Ring, place_before, place_after, tap, ago, pushed, ring_after, ring_samples}
use Rattle.lpc.proofs.FilterLaws.{Causal}

-- ---- places

zero_or : (n : ℕ) → (n ≡ 0) ⊎ (0 < n)
zero_or zero = inl refl
zero_or (suc n) = inr (omega arith)

before-pos : (order at : ℕ) → 0 < at → place_before order at ≡ at - 1
before-pos order at h = let n : at ≡ 0 → ⊥ = λ e. omega arith in simp (ne_eqb at 0 n)

-- the place after one that is not the last
after_less : (order at : ℕ) → at < order → place_after order at ≡ at + 1
after_less order at l = let n : at ≡ order → ⊥ = λ e. omega arith in simp (ne_eqb at order n)

pub after-low : (order at : ℕ) → at ≤ order → place_after order at ≤ order
after-low order at h = ⊎_elim (λ e. simp (eq-eqb at order e) (omega arith)) (λ l. rw (after_less order at l) (omega arith)) (eq-or-lt_of_le h)

before-low : (order at : ℕ) → at ≤ order → place_before order at ≤ order
before-low order at h = ⊎_elim (λ e. simp (eq-eqb at 0 e) (omega arith)) (λ l. rw (before-pos order at l) (omega arith)) (zero_or at)

tap-low : (order at : ℕ) → at ≤ order → (k : ℕ) → tap order at k ≤ order
unfolding tap
tap-low order at h zero = before-low order at h
tap-low order at h (suc k) = before-low order (tap order at k) (tap-low order at h k)

before-after : (order at : ℕ) → at ≤ order → place_before order (place_after order at) ≡ at
before-after order at h =
    ⊎_elim (λ e. simp (eq-eqb at order e) (sym e))
    (λ l. rw (after_less order at l) (before-pos order (at + 1) (omega arith) ∙ omega arith)) (eq-or-lt_of_le h)

tap-after : (order at : ℕ) → at ≤ order → (k : ℕ) → tap order (place_after order at) (suc k) ≡ tap order at k
unfolding tap
tap-after order at h zero = ap (place_before order) (before-after order at h)
tap-after order at h (suc k) = ap (place_before order) (tap-after order at h k)

-- where the tap k stands
pub data Stands (order at k t : ℕ) : Type 0 where
  lower : t + k + 1 ≡ at → Stands order at k t
  upper : at ≤ k → t + k ≡ order + at → Stands order at k t

pub stands : (order at k : ℕ) → at ≤ order → k ≤ order → Stands order at k (tap order at k)
unfolding tap
stands order at zero h l = ⊎_elim (λ e. rw e (upper (omega arith) (omega arith))) (λ p. rw (before-pos order at p) (lower (omega arith))) (zero_or at)
stands order at (suc k) h l = next (tap order at k) (stands order at k h (omega arith))
  where
    next : (t : ℕ) → Stands order at k t → Stands order at (suc k) (place_before order t)
    next t (lower e) = ⊎_elim (λ z. rw z (upper (omega arith) (omega arith))) (λ p. rw (before-pos order t p) (lower (omega arith))) (zero_or t)
    next t (upper g e) = let p : 0 < t = omega arith in rw (before-pos order t p) (upper (omega arith) (omega arith))

-- fewer than order back there is no place that is written next
tap-far : (order at k : ℕ) → at ≤ order → k < order → tap order at k ≡ at → ⊥
tap-far order at k h l e = far (tap order at k) e (stands order at k h (omega arith))
  where
    far : (t : ℕ) → t ≡ at → Stands order at k t → ⊥
    far t q (lower r) = omega arith
    far t q (upper g r) = omega arith

-- ---- a ring that holds the outputs h

-- a place of a list, whatever a place past its end counts
get_or-default : {A : Type 0} (l : List A) (i : ℕ) (d e : A) → i < length l → get_or l i d ≡ get_or l i e
get_or-default [] i d e h = absurd (omega arith)
get_or-default (x ∷ l) zero d e h = refl
get_or-default (x ∷ l) (suc i) d e h = get_or-default l i d e (omega arith)

-- what was written last stands before the place that is written next
pub newest : {A : Type 0} (order place : ℕ) (h : List A) (y d : A) → place ≤ order → order < length h → get_or (set h place y) (place_before order (place_after order place)) d ≡ y
newest {A} order place h y d p l =
    let g : place < length h = omega arith in
    ap (λ (t : ℕ). get_or (set h place y) t d) (before-after order place p) ∙ get_or-set_same h place y d g

module _ {A : Type 0} (f : Filter A) (order : ℕ) where
  -- a tap is never past the ring's end
  pub ago-default : (r : Ring A) (d : A) → r.place ≤ order → order < length r.history → (k : ℕ) → get_or r.history (tap order r.place k) d ≡ ago f order r k
  ago-default r d p h k = get_or-default r.history (tap order r.place k) d f.rest (omega (arith, tap-low order r.place p k))

  pub record Holds (r : Ring A) (h : List A) : Type 0 where
    pub place_low : r.place ≤ order
    pub room : order < length r.history
    pub same : (k : ℕ) → k < order → ago f order r k ≡ back f h k

  pub holds_pushed : (r : Ring A) (h : List A) (y : A) → Holds r h → Holds (pushed f order r y) (y ∷ h)
  unfolding tap
  holds_pushed r h y p = record { place_low = after-low order r.place p.place_low; room = simp length-set p.room; same = same }
    where
      same : (k : ℕ) → k < order → ago f order (pushed f order r y) k ≡ back f (y ∷ h) k
      same zero l = newest order r.place r.history y f.rest p.place_low p.room
      same (suc k) l =
          ap (λ (t : ℕ). get_or (set r.history r.place y) t f.rest) (tap-after order r.place p.place_low k)
          ∙ get_or-set_other r.history r.place (tap order r.place k) y f.rest (tap-far order r.place k p.place_low (omega arith))
          ∙ p.same k (omega arith)

  module _ (c : Causal f) (row : List ℕ) (l : length row ≤ order) where
    next-same : (r : Ring A) (h : List A) → Holds r h → (x : ℕ) → f.next row (ago f order r) x ≡ f.next row (back f h) x
    next-same r h p x = c row (ago f order r) (back f h) x (λ k m. p.same k (omega arith))

    pub ring-holds : (r : Ring A) (h : List A) → Holds r h → (xs : List ℕ) → Holds (ring_after f order row r xs) (outputs f row h xs)
    unfolding ring_after outputs
    ring-holds r h p [] = p
    ring-holds r h p (x ∷ xs) =
        let y = f.next row (back f h) x in
        rw (next-same r h p x) (ring-holds (pushed f order r y) (y ∷ h) (holds_pushed r h y p) xs)

    pub ring-samples : (r : Ring A) (h : List A) → Holds r h → (xs : List ℕ) → ring_samples f order row r xs ≡ samples f row h xs
    unfolding ring_samples samples
    ring-samples r h p [] = refl
    ring-samples r h p (x ∷ xs) =
        let y = f.next row (back f h) x in
        rw (next-same r h p x) (ap (λ (s : List ℕ). f.out y ∷ s) (ring-samples (pushed f order r y) (y ∷ h) (holds_pushed r h y p) xs))
