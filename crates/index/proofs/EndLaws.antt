-- The entries of an index, some and then the others.
use mathlib.Core.Path.{◌≡◌, refl, sym, ap, ◌∙◌}
use mathlib.Core.Bool.{Bool, true, false}
use mathlib.Core.List.{List, ◌∷◌, ◌++◌}
use Prim.Native.Nat.{ℕ, zero, suc, ◌+◌, ◌-◌, ◌≤◌, ◌<◌}
use native.Mathlib.Omega.{arith}
use lib.ListN.{length}
use Rattle.voice.specs.Voice.{Placed, Index, next_entry, whole_entry, with_entry, entries_from}
use Rattle.index.specs.Index.{end_of}
use Rattle.index.proofs.OrderLaws.{not-both}
use Rattle.index.proofs.WalkLaws.{placed, turn, walk_more, walk-cut}

-- ---- m entries, then k

module _ (bs : List ℕ) where
  pub walk-one : (n at : ℕ) → whole_entry bs at ≡ true → entries_from (suc n) bs at ≡ with_entry (placed bs at) (entries_from n bs (next_entry bs at))
  walk-one n at e =
      let f : suc n - 1 ≡ n = omega arith in
      walk_more bs (suc n) at (omega arith) e ∙ ap (λ (m : ℕ). with_entry (placed bs at) (entries_from m bs (next_entry bs at))) f

  pub record Split (m k at : ℕ) : Type 0 where
    pub first : (entries_from m bs at).whole ≡ true
    pub second : (entries_from k bs (end_of m bs at)).whole ≡ true
    pub list : (entries_from (m + k) bs at).list ≡ (entries_from m bs at).list ++ (entries_from k bs (end_of m bs at)).list

  pub walk_split : (m k at : ℕ) → (entries_from (m + k) bs at).whole ≡ true → Split m k at
  unfolding entries_from end_of
  walk_split zero k at w = let e : 0 + k ≡ k = omega arith in record { first = refl; second = rw e at w; list = rw e }
  walk_split (suc m) k at w = go (whole_entry bs at) refl (λ x. walk_split m k (next_entry bs at) x)
    where
      go : (t : Bool) → whole_entry bs at ≡ t → ((entries_from (m + k) bs (next_entry bs at)).whole ≡ true → Split m k (next_entry bs at)) → Split (suc m) k at
      go true e ih =
          let f : suc m + k ≡ suc (m + k) = omega arith in
          let one = walk-one (m + k) at e in
          let two = walk-one m at e in
          let g : entries_from (suc m + k) bs at ≡ with_entry (placed bs at) (entries_from (m + k) bs (next_entry bs at)) = ap (λ (n : ℕ). entries_from n bs at) f ∙ one in
          let r = ih (sym (ap (λ (i : Index). i.whole) g) ∙ w) in
          record {
            first = ap (λ (i : Index). i.whole) two ∙ r.first;
            second = r.second;
            list = ap (λ (i : Index). i.list) g ∙ ap (λ (l : List Placed). placed bs at ∷ l) r.list
                ∙ sym (ap (λ (i : Index). i.list ++ (entries_from k bs (end_of m bs (next_entry bs at))).list) two);
          }
      go false e ih = not-both (entries_from (suc m + k) bs at).whole w (ap (λ (i : Index). i.whole) (walk-cut bs (suc m + k) at (omega arith) e))

-- ---- where they end

end-one : (bs : List ℕ) (n at : ℕ) → 0 < n → end_of (n - 1) bs (next_entry bs at) ≡ end_of n bs at
unfolding end_of
end-one bs zero at h = absurd (omega arith)
end-one bs (suc n) at h = let e : suc n - 1 ≡ n = omega arith in rw e

end_none : (bs : List ℕ) (n at : ℕ) → n ≤ 0 → end_of n bs at ≡ at
unfolding end_of
end_none bs zero at h = refl
end_none bs (suc n) at h = absurd (omega arith)

module _ (bs : List ℕ) (x : ℕ) where
  pub record Ending (n at : ℕ) : Type 0 where
    pub within : at ≤ length bs
    pub whole : (entries_from n bs at).whole ≡ true
    pub same : end_of n bs at ≡ x

  pub ending-more : (n at m : ℕ) → m ≡ n - 1 → Ending n at → 0 < n → (next : ℕ) → (next ≡ next_entry bs at) × ((at + 5 ≤ next) × (next ≤ length bs)) → Ending m next
  ending-more n at m d e h next r =
      let t = turn bs n at h e.whole in
      rw d (record { within = r.1.1; whole = rw r.0 t.whole; same = rw r.0 (end-one bs n at h ∙ e.same) })

  pub ending-end : (n at : ℕ) → Ending n at → n ≤ 0 → at ≡ x
  ending-end n at e h = sym (end_none bs n at h) ∙ e.same
