-- An index that has every place once, in any order: read, exchanged, tested.
use mathlib.Core.Path.{◌≡◌, refl, sym, ap, ◌∙◌}
use mathlib.Core.Bool.{Bool, true, false, ◌&&◌}
use mathlib.Core.List.{List, [], ◌∷◌, ◌++◌, append_assoc}
use Prim.Native.Nat.{ℕ, suc, ◌+◌, ◌-◌, ◌*◌, ◌^◌, ◌≤◌, ◌<◌}
use native.Mathlib.Omega.{arith}
use lib.ListN.{length, take, drop, get_or, length-append, length-drop}
use lib.Seq.{sets, split_at, drop-cons, get_or-drop, length-take-le}
use Rattle.base.specs.Buffers.{over}
use Rattle.base.specs.Bytes.{bytes_of, u64_at}
use Rattle.base.proofs.BufferLaws.{length_over}
use Rattle.base.specs.Perm.{stay, then}
use Rattle.base.proofs.PermLaws.{perm-length, perm-each, perm-exchange}
use Rattle.text.specs.Names.{before}
use Rattle.voice.specs.Voice.{Entry, Placed, entry_at, next_entry, entries_from, sort}
use Rattle.voice.specs.Opening.{distinct}
use Rattle.index.specs.Index.{Indexable, ascending, index_of}
use Rattle.index.specs.Shuffle.{Shuffled, name_in}
use Rattle.index.proofs.WalkLaws.{placed}
use Rattle.index.proofs.OrderLaws.{ascending-distinct}
use Rattle.index.proofs.BufferLaws.{over-over, length-index, place_read, place-stored}
use Rattle.index.proofs.SortLaws.{Stored, each_at, each-stored, length-walk, length-sort}
use Rattle.index.proofs.ReorderLaws.{perm-sort, ordered-sort, perm-sorted, sorted-distinct}

few-ordered : (ps : List Placed) → length ps ≤ 1 → ascending ps ≡ true
unfolding ascending
few-ordered [] g = refl
few-ordered (p ∷ []) g = refl
few-ordered (p ∷ q ∷ ps) g = absurd (omega arith)

-- ---- an index that holds a list of places

same-room : (base : ℕ) (ps qs : List Placed) → length ps ≡ length qs → length (index_of base ps) ≡ length (index_of base qs)
same-room base ps qs e = length-index base ps ∙ ap (λ (k : ℕ). 8 * k) e ∙ sym (length-index base qs)

module _ (base : ℕ) (qs : List Placed) (z : Placed) (d : List ℕ) (i : ℕ) (l : i < length qs) where
  abbrev at_i : Placed
  at_i = get_or qs i z

  pub list_read : base + at_i.at < 2 ^ 64 → u64_at (over (index_of base qs) d) i ≡ base + at_i.at
  list_read h =
      let t : length (take i qs) ≡ i = length-take-le i qs (omega arith) in
      ap (λ (ps : List Placed). u64_at (over (index_of base ps) d) i) (split_at qs i z l)
      ∙ ap (u64_at (over (index_of base (take i qs ++ (at_i ∷ drop (suc i) qs))) d)) (sym t)
      ∙ place_read base (take i qs) at_i (drop (suc i) qs) d h

-- two places exchanged
module _ (base : ℕ) (f : List Placed) (x : Placed) (m : List Placed) (y : Placed) (r : List Placed) (d : List ℕ) (i j : ℕ) (e : length f ≡ i) (g : length m + suc i ≡ j) where
  pub places-exchanged : sets (sets (over (index_of base (f ++ (x ∷ (m ++ (y ∷ r))))) d) (8 * i) (bytes_of 8 (base + y.at))) (8 * j) (bytes_of 8 (base + x.at))
      ≡ over (index_of base (f ++ (y ∷ (m ++ (x ∷ r))))) d
  places-exchanged =
      let n : length (f ++ (y ∷ m)) ≡ j = length-append f (y ∷ m) ∙ omega arith in
      let one : sets (over (index_of base (f ++ (x ∷ (m ++ (y ∷ r))))) d) (8 * i) (bytes_of 8 (base + y.at)) ≡ over (index_of base ((f ++ (y ∷ m)) ++ (y ∷ r))) d =
      ap (λ (k : ℕ). sets (over (index_of base (f ++ (x ∷ (m ++ (y ∷ r))))) d) (8 * k) (bytes_of 8 (base + y.at))) (sym e)
      ∙ place-stored base f x (m ++ (y ∷ r)) d y
      ∙ ap (λ (ps : List Placed). over (index_of base ps) d) (sym (append_assoc f (y ∷ m) (y ∷ r))) in
      ap (λ (b : List ℕ). sets b (8 * j) (bytes_of 8 (base + x.at))) one
      ∙ ap (λ (k : ℕ). sets (over (index_of base ((f ++ (y ∷ m)) ++ (y ∷ r))) d) (8 * k) (bytes_of 8 (base + x.at))) (sym n)
      ∙ place-stored base (f ++ (y ∷ m)) y r d x
      ∙ ap (λ (ps : List Placed). over (index_of base ps) d) (append_assoc f (y ∷ m) (x ∷ r))

-- ---- a shuffled index

module _ (bs : List ℕ) (count base : ℕ) where
  abbrev all : List Placed
  all = (entries_from count bs 0).list

  module _ (d index : List ℕ) (s : Shuffled bs count base d index) where
    pub shuffled-count : length s.places ≡ count
    shuffled-count = sym (perm-length s.order) ∙ length-walk bs count 0 s.able.whole

    pub shuffled-bytes : length (index_of base s.places) ≡ 8 * count
    shuffled-bytes = length-index base s.places ∙ ap (λ (k : ℕ). 8 * k) shuffled-count

    pub shuffled-long : length index ≡ length d
    shuffled-long = ap length s.held ∙ length_over (index_of base s.places) d (omega (arith, shuffled-bytes, s.able.room))

    pub shuffled-able : Indexable bs count base (length index)
    shuffled-able = let n = shuffled-long in record { whole = s.able.whole; within = s.able.within; room = omega (arith, s.able.room) }

    -- as its own start
    pub shuffled-self : Shuffled bs count base index index
    shuffled-self =
        record {
          able = shuffled-able;
          places = s.places;
          order = s.order;
          held = s.held ∙ sym (ap (over (index_of base s.places)) s.held ∙ over-over (index_of base s.places) (index_of base s.places) d refl);
        }

    -- and shuffled again
    pub shuffled-then : (new : List ℕ) → Shuffled bs count base index new → Shuffled bs count base d new
    shuffled-then new t =
        record {
          able = s.able;
          places = t.places;
          order = t.order;
          held = t.held ∙ ap (over (index_of base t.places)) s.held
              ∙ over-over (index_of base t.places) (index_of base s.places) d (same-room base t.places s.places (sym (perm-length t.order) ∙ perm-length s.order));
        }

    pub shuffled-sorted : ascending s.places ≡ true → index ≡ over (index_of base (sort all)) d
    shuffled-sorted u = s.held ∙ ap (λ (ps : List Placed). over (index_of base ps) d) (ordered-sort s.order u)

    -- found in order
    pub shuffled-told : (r : Bool) → ((t : Shuffled bs count base index index) → r ≡ ascending t.places) → r ≡ true → index ≡ over (index_of base (sort all)) d
    unfolding shuffled-self
    shuffled-told r h e = shuffled-sorted (sym (h shuffled-self) ∙ e)

    pub shuffled-distinct : (r : Bool) → ((t : Shuffled bs count base index index) → r ≡ ascending t.places) → r ≡ true → distinct all ≡ true
    unfolding shuffled-self
    shuffled-distinct r h e = (perm-sort s.order (ascending-distinct s.places (sym (h shuffled-self) ∙ e))).0

    -- ---- the place at i

    pub shuffled-at : (i : ℕ) → i < count → Stored bs (get_or s.places i (placed bs 0))
    shuffled-at i l = each_at (Stored bs) i s.places (placed bs 0) (omega (arith, shuffled-count)) (perm-each (Stored bs) s.order (each-stored bs count 0))

    pub shuffled-value : (i : ℕ) → i < count → u64_at index i ≡ base + (get_or s.places i (placed bs 0)).at
    shuffled-value i l =
        let t = shuffled-at i l in
        ap (λ (b : List ℕ). u64_at b i) s.held ∙ list_read base s.places (placed bs 0) d i (omega (arith, shuffled-count)) (omega (arith, t.fits, s.able.within))

    pub record Held (i v : ℕ) : Type 0 where
      pub low : base ≤ v
      pub fits : next_entry bs (v - base) ≤ length bs

    pub shuffled-read : (i v : ℕ) → i < count → v ≡ u64_at index i → Held i v
    shuffled-read i v l e =
        let t = shuffled-at i l in
        let x : v ≡ base + (get_or s.places i (placed bs 0)).at = e ∙ shuffled-value i l in
        let a : v - base ≡ (get_or s.places i (placed bs 0)).at = omega arith in
        record { low = omega arith; fits = rw a t.fits }

    pub shuffled-name : (i : ℕ) → i < count → name_in bs base index i ≡ (get_or s.places i (placed bs 0)).entry.name
    shuffled-name i l =
        let t = shuffled-at i l in
        let x = shuffled-value i l in
        let a : u64_at index i - base ≡ (get_or s.places i (placed bs 0)).at = omega arith in
        ap (λ (k : ℕ). (entry_at bs k).name) a ∙ sym (ap (λ (e : Entry). e.name) t.named)

  -- two places exchanged
  pub shuffled-exchange : (index : List ℕ) → Shuffled bs count base index index → (i j a b : ℕ) → i < j → j < count → a ≡ u64_at index i → b ≡ u64_at index j
      → (new : List ℕ) → new ≡ sets (sets index (8 * i) (bytes_of 8 b)) (8 * j) (bytes_of 8 a) → Shuffled bs count base index new
  shuffled-exchange index s i j a b h l e f new g =
      let z = placed bs 0 in
      let qs = s.places in
      let n = shuffled-count index index s in
      let x = get_or qs i z in
      let y = get_or qs j z in
      let back = drop (suc i) qs in
      let k = j - suc i in
      let lb : length back ≡ length qs - suc i = length-drop (suc i) qs in
      let sj : suc i + k ≡ j = omega arith in
      let gy : get_or back k z ≡ y = get_or-drop (suc i) qs k z ∙ ap (λ (m : ℕ). get_or qs m z) sj in
      let m = take k back in
      let r = drop (suc k) back in
      let split : qs ≡ take i qs ++ (x ∷ (m ++ (y ∷ r))) =
      split_at qs i z (omega arith) ∙ ap (λ (ps : List Placed). take i qs ++ (x ∷ ps)) (split_at back k z (omega arith) ∙ ap (λ (p : Placed). m ++ (p ∷ r)) gy) in
      let lf : length (take i qs) ≡ i = length-take-le i qs (omega arith) in
      let lm : length m ≡ k = length-take-le k back (omega arith) in
      let ea : a ≡ base + x.at = e ∙ shuffled-value index index s i (omega arith) in
      let eb : b ≡ base + y.at = f ∙ shuffled-value index index s j l in
      record {
        able = s.able;
        places = take i qs ++ (y ∷ (m ++ (x ∷ r)));
        order = then (rw split at s.order) (perm-exchange (take i qs) x m y r);
        held = g
            ∙ ap (λ (v : ℕ). sets (sets index (8 * i) (bytes_of 8 v)) (8 * j) (bytes_of 8 a)) eb
            ∙ ap (λ (v : ℕ). sets (sets index (8 * i) (bytes_of 8 (base + y.at))) (8 * j) (bytes_of 8 v)) ea
            ∙ ap (λ (o : List ℕ). sets (sets o (8 * i) (bytes_of 8 (base + y.at))) (8 * j) (bytes_of 8 (base + x.at))) (s.held ∙ ap (λ (ps : List Placed). over (index_of base ps) index) split)
            ∙ places-exchanged base (take i qs) x m y r index i j lf (omega arith);
      }

  -- ---- whether it is in order

  module _ (index : List ℕ) (s : Shuffled bs count base index index) where
    pub ordered-turn : (i : ℕ) → 1 ≤ i → i < count
        → ascending (drop (i - 1) s.places) ≡ (before (name_in bs base index (i - 1)) (name_in bs base index i) && ascending (drop i s.places))
    unfolding ascending
    ordered-turn i h l =
        let z = placed bs 0 in
        let qs = s.places in
        let n = shuffled-count index index s in
        let k : suc (i - 1) ≡ i = omega arith in
        let one : drop (i - 1) qs ≡ get_or qs (i - 1) z ∷ drop i qs = drop-cons qs (i - 1) z (omega arith) ∙ ap (λ (m : ℕ). get_or qs (i - 1) z ∷ drop m qs) k in
        let two : drop i qs ≡ get_or qs i z ∷ drop (suc i) qs = drop-cons qs i z (omega arith) in
        rw (shuffled-name index index s (i - 1) (omega arith), shuffled-name index index s i l, one, two)

    pub ordered-more : (i : ℕ) → 1 ≤ i → i < count → before (name_in bs base index (i - 1)) (name_in bs base index i) ≡ true
        → ascending (drop (i + 1 - 1) s.places) ≡ ascending (drop (i - 1) s.places)
    ordered-more i h l b =
        let k : i + 1 - 1 ≡ i = omega arith in
        ap (λ (m : ℕ). ascending (drop m s.places)) k ∙ sym (ordered-turn i h l ∙ rw b)

    pub ordered-stop : (i : ℕ) → 1 ≤ i → i < count → before (name_in bs base index (i - 1)) (name_in bs base index i) ≡ false
        → ascending (drop (i - 1) s.places) ≡ false
    ordered-stop i h l b = ordered-turn i h l ∙ rw b

    pub ordered_end : (i : ℕ) → 1 ≤ i → count ≤ i → ascending (drop (i - 1) s.places) ≡ true
    ordered_end i h l = let n = shuffled-count index index s in few-ordered (drop (i - 1) s.places) (rw length-drop (omega arith))

-- the names of two places that were read
pub names-told : (bs : List ℕ) (base : ℕ) (index : List ℕ) (i j v w : ℕ) (t : Bool) → v ≡ u64_at index i → w ≡ u64_at index j
    → t ≡ before (entry_at bs (v - base)).name (entry_at bs (w - base)).name → t ≡ before (name_in bs base index i) (name_in bs base index j)
names-told bs base index i j v w t e f h = h ∙ rw (e, f)

-- ---- the places stored in file order, and an index filled anew

module _ (bs : List ℕ) (count base : ℕ) (d index : List ℕ) where
  pub shuffled-stored : Indexable bs count base (length d) → index ≡ over (index_of base (entries_from count bs 0).list) d → Shuffled bs count base d index
  shuffled-stored r h = record { able = r; places = (entries_from count bs 0).list; order = stay; held = h }

  pub stored-self : Indexable bs count base (length d) → index ≡ over (index_of base (entries_from count bs 0).list) d → Shuffled bs count base index index
  stored-self r h = shuffled-self bs count base d index (shuffled-stored r h)

  pub shuffled-anew : Shuffled bs count base d index → (new : List ℕ)
      → new ≡ over (index_of base (sort (entries_from count bs 0).list)) index → new ≡ over (index_of base (sort (entries_from count bs 0).list)) d
  shuffled-anew s new e =
      let ps = (entries_from count bs 0).list in
      e ∙ ap (over (index_of base (sort ps))) s.held
      ∙ over-over (index_of base (sort ps)) (index_of base s.places) d (same-room base (sort ps) s.places (length-sort ps ∙ perm-length s.order))

-- ---- a filled index, tested

module _ (bs : List ℕ) (count base : ℕ) (d index : List ℕ) (r : Indexable bs count base (length d)) (h : index ≡ over (index_of base (sort (entries_from count bs 0).list)) d) where
  shuffled-filled : Shuffled bs count base d index
  shuffled-filled = record { able = r; places = sort (entries_from count bs 0).list; order = perm-sorted (entries_from count bs 0).list; held = h }

  pub filled-self : Shuffled bs count base index index
  filled-self = shuffled-self bs count base d index shuffled-filled

  pub filled-distinct : (t : Bool) → ((s : Shuffled bs count base index index) → t ≡ ascending s.places) → t ≡ distinct (entries_from count bs 0).list
  unfolding filled-self shuffled-filled shuffled-self
  filled-distinct t f = f filled-self ∙ sorted-distinct (entries_from count bs 0).list
