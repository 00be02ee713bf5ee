-- Two neighbours in an index with the same name.
use mathlib.Core.Path.{◌≡◌, refl, sym, ap, subst, ◌∙◌}
use mathlib.Core.Bool.{Bool, true, false, true≢false}
use mathlib.Core.List.{List, [], ◌∷◌}
use Prim.Native.Nat.{ℕ, zero, suc, ◌-◌, ◌≤◌, ◌<◌}
use native.Mathlib.Omega.{arith}
use lib.ListN.{length, drop, get_or}
use lib.Seq.{drop-cons}
use Rattle.base.specs.Buffers.{over}
use Rattle.base.specs.Bytes.{u64_at}
use Rattle.base.proofs.PermLaws.{perm-back}
use Rattle.text.specs.Names.{same}
use Rattle.text.proofs.NameLaws.{same-eq, same_refl}
use Rattle.voice.specs.Voice.{Placed, entry_at, next_entry, entries_from, sort}
use Rattle.voice.specs.Opening.{distinct}
use Rattle.index.specs.Index.{Filled, ascending, index_of}
use Rattle.index.specs.Shuffle.{Shuffled, name_in}
use Rattle.index.proofs.OrderLaws.{not-both}
use Rattle.index.proofs.WalkLaws.{placed}
use Rattle.index.proofs.AscendingLaws.{other, distinct-parts}
use Rattle.index.proofs.FilledLaws.{filled-by}
use Rattle.index.proofs.ReorderLaws.{perm-sort}
use Rattle.index.proofs.ShuffleLaws.{shuffled-count, shuffled-name, shuffled-read, shuffled-able, shuffled-told, shuffled-distinct, filled-distinct}

distinct-drop : (i : ℕ) (ps : List Placed) → distinct ps ≡ true → distinct (drop i ps) ≡ true
distinct-drop zero ps u = u
distinct-drop (suc i) [] u = u
distinct-drop (suc i) (p ∷ ps) u = distinct-drop i ps (distinct-parts p ps u).1

twice : (p q : Placed) (ps : List Placed) → same p.entry.name q.entry.name ≡ true → distinct (p ∷ q ∷ ps) ≡ true → ⊥
twice p q ps e u =
    let a = p.entry.name in
    let b = q.entry.name in
    let o = other a q ps (distinct-parts p (q ∷ ps) u).0 in
    not-both (same b a) (ap (same b) (same-eq a b e) ∙ same_refl b) o.0

-- the entry at a place that was read fits
pub read_fits : (bs : List ℕ) (count : ℕ) (index : List ℕ) → Shuffled bs count 0 index index → (i v : ℕ) → i < count → v ≡ u64_at index i → next_entry bs v ≤ length bs
read_fits bs count index s i v l e =
    let z : v ≡ v - 0 = omega arith in
    ap-le z (shuffled-read bs count 0 index index s i v l e).fits
  where
    ap-le : {n : ℕ} → v ≡ n → next_entry bs n ≤ length bs → next_entry bs v ≤ length bs
    ap-le {n} z h = subst (λ (m : ℕ). next_entry bs m ≤ length bs) (sym z) h

-- the names of two places that were read
pub names-are : (bs index : List ℕ) (i j v w : ℕ) (a b : List ℕ) (t : Bool) → v ≡ u64_at index i → w ≡ u64_at index j
    → a ≡ (entry_at bs v).name → b ≡ (entry_at bs w).name → t ≡ same a b → t ≡ same (name_in bs 0 index i) (name_in bs 0 index j)
names-are bs index i j v w a b t e f g h k =
    k ∙ ap (λ (m : List ℕ). same m b) (g ∙ ap (λ (n : ℕ). (entry_at bs n).name) (e ∙ less (u64_at index i)))
    ∙ ap (same (name_in bs 0 index i)) (h ∙ ap (λ (n : ℕ). (entry_at bs n).name) (f ∙ less (u64_at index j)))
  where
    less : (n : ℕ) → n ≡ n - 0
    less n = omega arith

module _ (bs : List ℕ) (count : ℕ) (index : List ℕ) (s : Shuffled bs count 0 index index) where
  -- a name stands twice
  pub neighbours-twice : (i : ℕ) → 1 ≤ i → i < count → same (name_in bs 0 index (i - 1)) (name_in bs 0 index i) ≡ true → distinct (entries_from count bs 0).list ≡ false
  neighbours-twice i h l e = go (distinct (entries_from count bs 0).list) refl
    where
      go : (t : Bool) → distinct (entries_from count bs 0).list ≡ t → t ≡ false
      go false d = refl
      go true d =
          let z = placed bs 0 in
          let qs = s.places in
          let n = shuffled-count bs count 0 index index s in
          let k : suc (i - 1) ≡ i = omega arith in
          let one : drop (i - 1) qs ≡ get_or qs (i - 1) z ∷ drop i qs = drop-cons qs (i - 1) z (omega arith) ∙ ap (λ (m : ℕ). get_or qs (i - 1) z ∷ drop m qs) k in
          let two : drop i qs ≡ get_or qs i z ∷ drop (suc i) qs = drop-cons qs i z (omega arith) in
          let u = distinct-drop (i - 1) qs (perm-sort (perm-back s.order) d).0 in
          let v : distinct (get_or qs (i - 1) z ∷ get_or qs i z ∷ drop (suc i) qs) ≡ true =
          sym (ap distinct (one ∙ ap (λ (ps : List Placed). get_or qs (i - 1) z ∷ ps) two)) ∙ u in
          let f : same (get_or qs (i - 1) z).entry.name (get_or qs i z).entry.name ≡ true =
          sym (ap (λ (m : List ℕ). same m (get_or qs i z).entry.name) (shuffled-name bs count 0 index index s (i - 1) (omega arith)))
          ∙ sym (ap (same (name_in bs 0 index (i - 1))) (shuffled-name bs count 0 index index s i l)) ∙ e in
          absurd (twice _ _ _ f v)

-- ---- a block, sorted

-- no name stands twice, and the index is filled; or one does
abbrev pub Sorts : List ℕ → ℕ → List ℕ → Bool → Type 0
Sorts bs count index t = (t ≡ distinct (entries_from count bs 0).list) × (t ≡ true → Filled bs count 0 index)

pub sorts-not : (bs : List ℕ) (count : ℕ) (index : List ℕ) → distinct (entries_from count bs 0).list ≡ false → Sorts bs count index false
sorts-not bs count index d = (sym d, λ e. absurd (true≢false (sym e)))

module _ (bs : List ℕ) (count : ℕ) (d index : List ℕ) (s : Shuffled bs count 0 d index) where
  pub sorts-ordered : (t : Bool) → ((u : Shuffled bs count 0 index index) → t ≡ ascending u.places) → t ≡ true → Sorts bs count index true
  sorts-ordered t h e =
      (sym (shuffled-distinct bs count 0 d index s t h e), λ x. filled-by bs count 0 d index s.able (shuffled-told bs count 0 d index s t h e))

  pub sorts-filled : (new : List ℕ) → new ≡ over (index_of 0 (sort (entries_from count bs 0).list)) index
      → (t : Bool) → ((u : Shuffled bs count 0 new new) → t ≡ ascending u.places) → Sorts bs count new t
  sorts-filled new g t h =
      let r = shuffled-able bs count 0 d index s in
      (filled-distinct bs count 0 index new r g t h, λ x. filled-by bs count 0 index new r g)
