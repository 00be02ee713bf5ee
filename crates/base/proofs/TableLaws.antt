-- One computed test over a table, or over the first numbers, gives its rule at each.
use mathlib.Core.Path.{◌∙◌, subst, sym}
use mathlib.Core.Bool.{Bool, true, false}
use mathlib.Core.List.{List, [], ◌∷◌}
use Prim.Native.Nat.{ℕ, zero, suc, ◌+◌, ◌<◌}
use native.Mathlib.Nat.{add-zero, zero-add, add-suc, suc-add, le_of_suc-le-suc, not-suc-le-zero}
use lib.Dec.{T}
use lib.ListN.{length, get_or}
use Rattle.base.specs.Choice.{pick}
use Rattle.base.specs.Tables.{passes, passes_from}

here : (t b : Bool) → T (pick t b false) → T t
here true b h = tt
here false b h = h

after : (t b : Bool) → T (pick t b false) → T b
after true b h = h
after false b h = absurd h

module _ (test : ℕ → ℕ → Bool) where
  from : (xs : List ℕ) (i : ℕ) → T (passes test i xs) → (k : ℕ) → k < length xs → T (test (i + k) (get_or xs k 0))
  from [] i t k h = absurd (not-suc-le-zero h)
  from (x ∷ xs) i t zero h = subst (λ (m : ℕ). T (test m x)) (sym (add-zero i)) (here (test i x) (passes test (suc i) xs) t)
  from (x ∷ xs) i t (suc k) h =
      subst (λ (m : ℕ). T (test m (get_or xs k 0))) (suc-add i k ∙ sym (add-suc i k))
      (from xs (suc i) (after (test i x) (passes test (suc i) xs) t) k (le_of_suc-le-suc h))

  -- `t` is `tt` where antt computes the test to `true`
  pub at : (xs : List ℕ) (t : T (passes test 0 xs)) (k : ℕ) → k < length xs → T (test k (get_or xs k 0))
  at xs t k h = subst (λ (m : ℕ). T (test m (get_or xs k 0))) (zero-add k) (from xs 0 t k h)

module _ (test : ℕ → Bool) where
  below-from : (n i : ℕ) → T (passes_from test i n) → (k : ℕ) → k < n → T (test (i + k))
  below-from zero i t k h = absurd (not-suc-le-zero h)
  below-from (suc n) i t zero h = subst (λ (m : ℕ). T (test m)) (sym (add-zero i)) (here (test i) (passes_from test (suc i) n) t)
  below-from (suc n) i t (suc k) h = subst (λ (m : ℕ). T (test m)) (suc-add i k ∙ sym (add-suc i k)) (below-from n (suc i) (after (test i) (passes_from test (suc i) n) t) k (le_of_suc-le-suc h))

  -- the rule at each number below n
  pub below : (n : ℕ) (t : T (passes_from test 0 n)) (k : ℕ) → k < n → T (test k)
  below n t k h = subst (λ (m : ℕ). T (test m)) (zero-add k) (below-from n 0 t k h)
