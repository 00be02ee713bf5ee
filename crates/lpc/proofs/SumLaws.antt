-- A loop over a row: what is still to be added, one turn, and the end; a row's values in an array; and the filters' sums as such loops make them.
use mathlib.Core.Path.{◌≡◌, refl, sym, ap, ◌∙◌}
use mathlib.Core.List.{List, [], ◌∷◌, ◌++◌, map, map-append}
use Prim.Native.Nat.{ℕ, zero, suc, ◌+◌, ◌*◌, ◌/◌, ◌≤◌, ◌<◌}
use native.Mathlib.Numerals.{add-one}
use native.Mathlib.Omega.{arith}
use lib.IntN.{ℤ}
use lib.ListN.{length, get_or, drop, drop_of_length-le, get_or-append}
use lib.Seq.{drop-cons}
use lib.Ieee.{Float}
use Rattle.base.specs.Buffers.{over, upto}
use Rattle.base.specs.Bytes.{u16_at, elements}
use Rattle.base.specs.Words.{low}
use Rattle.base.proofs.BufferLaws.{length-upto, get_or-upto, upto-same}
use Rattle.lpc.specs.Fixed.{fixed_sum}
use Rattle.lpc.specs.Floating.{float_sum}
use Rattle.lpc.specs.Ring.{place_before, tap}
use Rattle.lpc.specs.Sums.{summed, fixed_step, float_step}

-- values and history are arrays, and d is what a place past an array's end counts
module _ {A : Type 0} (step : A → A → A → A) (d start : A) (values history : List A) (order place : ℕ) where
  abbrev past : ℕ → A
  past k = get_or history (tap order place k) d

  abbrev row : List A
  row = upto (λ k. get_or values k d) order

  abbrev whole : A
  whole = summed step start row past 0

  pub record Summing (acc : A) (at k : ℕ) : Type 0 where
    pub few : k ≤ order
    pub low : at ≤ order
    pub here : at ≡ tap order place k
    pub rest : summed step acc (drop k row) past k ≡ whole

  pub sum-start : (at : ℕ) → at ≡ place_before order place → at ≤ order → Summing start at 0
  unfolding tap
  sum-start at e l = record { few = omega arith; low = l; here = e; rest = refl }

  module _ (acc : A) (at k : ℕ) (h : Summing acc at k) where
    module _ (l : k < order) where
      row-turn : drop k row ≡ get_or values k d ∷ drop (suc k) row
      row-turn =
          let m : k < length row = rw length-upto l in
          drop-cons row k d m ∙ rw (get_or-upto (λ k. get_or values k d) order k d l)

      rest-turn : summed step (step acc (get_or values k d) (get_or history at d)) (drop (k + 1) row) past (k + 1) ≡ whole
      unfolding summed
      rest-turn = rw (add-one k, h.here) (rw row-turn at h.rest)

      pub sum-turn : (acc' : A) (at' : ℕ) → acc' ≡ step acc (get_or values k d) (get_or history at d) → at' ≡ place_before order at → at' ≤ order → Summing acc' at' (k + 1)
      unfolding tap
      sum-turn acc' at' e p b =
          record {
            few = omega arith;
            low = b;
            here = p ∙ ap (place_before order) h.here ∙ rw (add-one k);
            rest = rw e rest-turn;
          }

    pub sum-end : order ≤ k → acc ≡ whole
    unfolding summed
    sum-end l =
        let m : length row ≤ k = rw length-upto l in
        rw (drop_of_length-le row m) at h.rest

-- ---- a row's values, read once for a period

map-upto : {A : Type 0} (g : ℕ → A) (f : ℕ → ℕ) (n : ℕ) → map g (upto f n) ≡ upto (λ i. g (f i)) n
unfolding upto
map-upto g f zero = refl
map-upto g f (suc n) = map-append g (upto f n) (f n ∷ []) ∙ ap (λ (l : List _). l ++ (g (f n) ∷ [])) (map-upto g f n)

-- an array whose front has them, before z
pub row_read : {A : Type 0} (g : ℕ → A) (row : List ℕ) (order : ℕ) (values z : List A) (d : A) → length row ≡ 2 * order → values ≡ over (upto (λ k. g (u16_at row k)) (length row / 2)) z → upto (λ k. get_or values k d) order ≡ map g (elements 2 row)
unfolding over elements
row_read {A} g row order values z d l e =
    let n : length row / 2 ≡ order = omega arith in
    let at : (k : ℕ) → k < order → get_or values k d ≡ g (u16_at row k) = λ k h. rw (e, n) (front k h) in
    rw n (upto-same (λ k. get_or values k d) (λ k. g (u16_at row k)) order at ∙ sym (map-upto g (u16_at row) order))
  where
    p : List A
    p = upto (λ k. g (u16_at row k)) order

    front : (k : ℕ) → k < order → get_or (p ++ drop (length p) z) k d ≡ g (u16_at row k)
    front k h = get_or-append p (drop (length p) z) d k (rw length-upto h) ∙ get_or-upto (λ k. g (u16_at row k)) order k d h

-- ---- the filters' sums

pub fixed-summed : (acc : ℕ) (cs : List ℤ) (y : ℕ → ℕ) (k : ℕ) → summed fixed_step acc (map (low 32) cs) y k ≡ fixed_sum acc cs y k
unfolding summed fixed_sum
fixed-summed acc [] y k = refl
fixed-summed acc (c ∷ cs) y k = fixed-summed (fixed_step acc (low 32 c) (y k)) cs y (suc k)

pub float-summed : (acc : Float) (cs : List Float) (y : ℕ → Float) (k : ℕ) → summed float_step acc cs y k ≡ float_sum acc cs y k
unfolding summed float_sum
float-summed acc [] y k = refl
float-summed acc (c ∷ cs) y k = float-summed (float_step acc c (y k)) cs y (suc k)
