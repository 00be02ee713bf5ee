-- A sum on words in another order: a loop that adds the oldest output's product first.
use Rattle.std.proofs.Common.{◌≡◌, ℕ, suc, ◌+◌, ◌-◌, ◌*◌, ◌%◌, ◌^◌, ◌<◌, ◌≤◌, List, [], ◌∷◌, length, get_or, drop, sym, refl, ap, ◌∙◌, arith, drop_of_length-le, drop-cons}
use Rattle.base.specs.Buffers.{upto}
use Rattle.base.proofs.BufferLaws.{length-upto, get_or-upto}
use Rattle.lpc.specs.Sums.{summed, fixed_step}

swapped : (a p q : ℕ) → ((a + p) % 2 ^ 32 + q) % 2 ^ 32 ≡ ((a + q) % 2 ^ 32 + p) % 2 ^ 32
swapped a p q = omega arith

-- a product may be added first or last
added-last : (acc c v : ℕ) (cs : List ℕ) (y : ℕ → ℕ) (k : ℕ) → summed fixed_step (fixed_step acc c v) cs y k ≡ fixed_step (summed fixed_step acc cs y k) c v
unfolding summed
added-last acc c v [] y k = refl
added-last acc c v (e ∷ es) y k =
    ap (λ (a : ℕ). summed fixed_step a es y (suc k)) (swapped acc ((c * v) % 2 ^ 32) ((e * y k) % 2 ^ 32))
    ∙ added-last (fixed_step acc e (y k)) c v es y (suc k)

-- the same sum of the same outputs
pub summed_same : (acc : ℕ) (cs : List ℕ) (y z : ℕ → ℕ) (k : ℕ) → ((j : ℕ) → j < k + length cs → y j ≡ z j) → summed fixed_step acc cs y k ≡ summed fixed_step acc cs z k
unfolding summed
summed_same acc [] y z k e = refl
summed_same acc (c ∷ cs) y z k e = rw (e k (omega arith)) (summed_same (fixed_step acc c (z k)) cs y z (suc k) (λ j l. e j (omega arith)))

module _ (start : ℕ) (values window : List ℕ) (order place : ℕ) where
  abbrev past : ℕ → ℕ
  past k = get_or window (place + order - k) 0

  abbrev row : List ℕ
  row = upto (λ k. get_or values k 0) order

  -- the products from k on
  abbrev pub from : ℕ → ℕ
  from k = summed fixed_step start (drop k row) past k

  pub from-end : (k : ℕ) → order ≤ k → start ≡ from k
  unfolding summed
  from-end k l =
      let n : length row ≤ k = rw length-upto l in
      rw (drop_of_length-le row n)

  -- the product k, after those from k + 1 on
  pub from-more : (k acc acc' : ℕ) → k < order → acc ≡ from (suc k) → acc' ≡ fixed_step acc (get_or values k 0) (past k) → acc' ≡ from k
  unfolding summed
  from-more k acc acc' l h e =
      let m : k < length row = rw length-upto l in
      let r : drop k row ≡ get_or values k 0 ∷ drop (suc k) row = drop-cons row k 0 m ∙ rw (get_or-upto (λ k. get_or values k 0) order k 0 l) in
      e
      ∙ ap (λ (a : ℕ). fixed_step a (get_or values k 0) (past k)) h
      ∙ sym (added-last start (get_or values k 0) (past k) (drop (suc k) row) past (suc k))
      ∙ ap (λ (l : List ℕ). summed fixed_step start l past k) (sym r)
