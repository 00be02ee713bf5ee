-- A sparse index, stored and searched.
use Rattle.std.specs.Prelude.{None}
use mathlib.Core.Path.{◌≡◌, refl, sym, ap, subst, ◌∙◌}
use mathlib.Core.Bool.{Bool, true, false}
use mathlib.Core.List.{List, [], ◌∷◌, ◌++◌}
use Prim.Native.Nat.{ℕ, zero, suc, ◌+◌, ◌-◌, ◌*◌, ◌/◌, ◌^◌, ◌≤◌, ◌<◌}
use native.Mathlib.Nat.{mod-eq_of_lt, zero-mul, mul-suc, mul-zero, mul-le-mul_left}
use native.Mathlib.Numerals.{add-one}
use native.Mathlib.Omega.{arith}
use lib.ListN.{length, take, drop, get_or, set, take-append-drop}
use lib.Seq.{sets, length-sets, drop_at, drop-drop, get_or-set_other}
use Rattle.base.specs.Bytes.{bytes_of, u64_at}
use Rattle.base.specs.Perm.{stay}
use Rattle.base.proofs.ByteLaws.{little_endian-same, little_endian-sets}
use Rattle.base.proofs.BoundLaws.{nil, cons}
use Rattle.base.proofs.CaseLaws.{by_order}
use Rattle.text.specs.Names.{before, order_of}
use Rattle.std.specs.declared.cmp.Ordering.{Ordering}
use Rattle.voice.specs.Voice.{Placed, entry_at, next_entry, entries_from, lookup, sort}
use Rattle.index.specs.Index.{ascending, end_of, first_of}
use Rattle.index.proofs.OrderLaws.{before-neither, ascending-rest, lookup-earlier}
use Rattle.index.proofs.SortLaws.{length-walk}
use Rattle.index.proofs.WalkLaws.{placed, turn}
use Rattle.index.proofs.EndLaws.{walk_split}
use Rattle.index.proofs.ReorderLaws.{ordered-sort}
use Rattle.search.proofs.SearchLaws.{compared, Low, low-trans, ascending-low, ascending-drop, lookup-low}
use Rattle.sparse.specs.Sparse.{Begins, SparseIndex}

-- ---- a place that is stored

sets-before : (vs l : List ℕ) (i k : ℕ) → k < i → get_or (sets l i vs) k 0 ≡ get_or l k 0
sets-before [] l i k h = refl
sets-before (v ∷ vs) l i k h = sets-before vs (set l i v) (suc i) k (omega arith) ∙ get_or-set_other l i k v 0 (λ e. omega arith)

stored-before : (s : List ℕ) (i j v : ℕ) → j < i → u64_at (sets s (8 * i) (bytes_of 8 v)) j ≡ u64_at s j
stored-before s i j v l = little_endian-same 8 (sets s (8 * i) (bytes_of 8 v)) s (8 * j) (λ k a b. sets-before (bytes_of 8 v) s (8 * i) k (omega arith))

stored_here : (s : List ℕ) (i v : ℕ) → 8 * i + 8 ≤ length s → v < 2 ^ 64 → u64_at (sets s (8 * i) (bytes_of 8 v)) i ≡ v
stored_here s i v h b = little_endian-sets 8 v s (8 * i) h ∙ mod-eq_of_lt b

module _ (bs : List ℕ) (count : ℕ) where
  -- ---- the entries from a number on

  begins-first : (entries_from count bs 0).whole ≡ true → 0 < count → Begins bs count 0 0
  begins-first w h = let e : count - 0 ≡ count = omega arith in record { inside = h; whole = rw e w; list = rw e }

  module _ (n at : ℕ) (b : Begins bs count n at) where
    pub begins-turn : next_entry bs at ≤ length bs
    begins-turn = (turn bs (count - n) at (omega (arith, b.inside)) b.whole).fits

    pub begins-order : ascending (entries_from count bs 0).list ≡ true → ascending (entries_from (count - n) bs at).list ≡ true
    begins-order u = ap ascending b.list ∙ ascending-drop n (entries_from count bs 0).list u

    -- m entries further
    begins-more : (m : ℕ) → m < count - n → Begins bs count (n + m) (end_of m bs at)
    begins-more m h =
        let e : m + (count - (n + m)) ≡ count - n = omega arith in
        let s = walk_split bs m (count - (n + m)) at (ap (λ (k : ℕ). (entries_from k bs at).whole) e ∙ b.whole) in
        let l : (entries_from m bs at).list ++ (entries_from (count - (n + m)) bs (end_of m bs at)).list ≡ drop n (entries_from count bs 0).list =
        sym s.list ∙ ap (λ (k : ℕ). (entries_from k bs at).list) e ∙ b.list in
        record {
          inside = omega arith;
          whole = s.second;
          list = sym (drop_at (entries_from m bs at).list (entries_from (count - (n + m)) bs (end_of m bs at)).list m (length-walk bs m at s.first))
              ∙ ap (drop m) l ∙ drop-drop m n (entries_from count bs 0).list;
        }

  -- ---- places, one after the other

  module _ (stride : ℕ) (d : List ℕ) where
    -- the places with numbers up to `last` are stored; that one is `at`, and the last `left` entries begin there
    pub record Spaced (index : List ℕ) (last at left : ℕ) : Type 0 where
      pub long : length index ≡ length d
      pub room : 8 * last + 8 ≤ length d
      pub enough : count ≤ stride * (length d / 8)
      pub remain : stride * last + left ≡ count
      pub here : Begins bs count (stride * last) at
      pub places : (j : ℕ) → j < last + 1 → Begins bs count (stride * j) (u64_at index j)

    -- the first, stored in a buffer e
    pub spaced-first : (e : List ℕ) → d ≡ sets e 0 (bytes_of 8 0) → 8 ≤ length e → count ≤ stride * (length e / 8)
        → (entries_from count bs 0).whole ≡ true → 0 < count → Spaced d 0 0 count
    spaced-first e f r q w h =
        let z : stride * 0 ≡ 0 = mul-zero stride in
        let b = subst (λ (n : ℕ). Begins bs count n 0) (sym z) (begins-first w h) in
        let v : u64_at d 0 ≡ 0 = ap (λ (l : List ℕ). u64_at l 0) f ∙ stored_here e 0 0 (omega arith) (omega arith) in
        let n : length d ≡ length e = ap length f ∙ length-sets e 0 (bytes_of 8 0) in
        record {
          long = refl;
          room = omega arith;
          enough = rw n q;
          remain = omega arith;
          here = b;
          places = λ j l.
              let i : 0 ≡ j = omega arith in
              subst (λ (i : ℕ). Begins bs count (stride * i) (u64_at d i)) i (subst (Begins bs count (stride * 0)) (sym v) b);
        }

    module _ (index : List ℕ) (last at left : ℕ) (s : Spaced index last at left) where
      -- so many entries are there
      pub spaced-step : stride < left → (at ≤ length bs) × ((entries_from stride bs at).whole ≡ true)
      spaced-step l =
          let q = s.remain in
          let t = begins-turn (stride * last) at s.here in
          let e : count - stride * last ≡ stride + (left - stride) = omega arith in
          let w : (entries_from (stride + (left - stride)) bs at).whole ≡ true = rw e at s.here.whole in
          (omega arith, (walk_split bs stride (left - stride) at w).first)

      -- one more has room
      pub spaced-room : stride < left → 8 * (last + 1) + 8 ≤ length index
      spaced-room l =
          let r = s.enough in
          let e : stride * (last + 1) ≡ stride * last + stride = rw (add-one, mul-suc) in
          let q = s.remain in
          let n = s.long in
          by_order (last + 1) (length d / 8)
          (λ h. omega arith)
          (λ h. let m : stride * (length d / 8) ≤ stride * (last + 1) = mul-le-mul_left stride h in absurd (omega arith))

      -- the next
      pub spaced-more : stride < left → (next : ℕ) → next ≡ end_of stride bs at → next < 2 ^ 64
          → Spaced (sets index (8 * (last + 1)) (bytes_of 8 next)) (last + 1) next (left - stride)
      spaced-more l next e small =
          let r = spaced-room l in
          let q = s.remain in
          let m : stride * last + stride ≡ stride * (last + 1) = rw (add-one, mul-suc) in
          let f : Begins bs count (stride * last + stride) (end_of stride bs at) = begins-more (stride * last) at s.here stride (omega arith) in
          let b : Begins bs count (stride * (last + 1)) next = subst (Begins bs count (stride * (last + 1))) (sym e) (subst (λ (k : ℕ). Begins bs count k (end_of stride bs at)) m f) in
          record {
            long = length-sets index (8 * (last + 1)) (bytes_of 8 next) ∙ s.long;
            room = omega (arith, s.long);
            enough = s.enough;
            remain = omega arith;
            here = b;
            places = λ j h. by_order j (last + 1)
                (λ f. subst (Begins bs count (stride * j)) (sym (stored-before index (last + 1) j next f)) (s.places j f))
                (λ f.
                let g : last + 1 ≡ j = omega arith in
                subst (λ (i : ℕ). Begins bs count (stride * i) (u64_at (sets index (8 * (last + 1)) (bytes_of 8 next)) i)) g
                (subst (Begins bs count (stride * (last + 1))) (sym (stored_here index (last + 1) next r small)) b));
          }

      pub spaced-end : ascending (entries_from count bs 0).list ≡ true → SparseIndex bs count (record { stride = stride; count = last + 1 }) index
      spaced-end u = record { order = u; some = omega arith; room = omega (arith, s.long, s.room); places = s.places }

-- ---- the search

-- an entry that does not stand after a name: all before it stand before the name
passed-low : (n : List ℕ) (ps : List Placed) (q : Placed) (qs : List Placed) → ascending (ps ++ (q ∷ qs)) ≡ true → before n q.entry.name ≡ false → Low n ps
passed-low n ps q qs u h = go (before q.entry.name n) refl (ascending-low ps q qs u)
  where
    go : (t : Bool) → before q.entry.name n ≡ t → Low q.entry.name ps → Low n ps
    go true e l = low-trans q.entry.name n ps e l
    go false e l = subst (λ (m : List ℕ). Low m ps) (before-neither q.entry.name n e h) l

-- so the name is looked for from there on
pub passed_over : (bs : List ℕ) (count k at : ℕ) (name : List ℕ) → ascending (entries_from count bs 0).list ≡ true → Begins bs count k at
    → before name (entry_at bs at).name ≡ false
    → lookup name (drop k (entries_from count bs 0).list) ≡ lookup name (entries_from count bs 0).list
passed_over bs count k at name u b h =
    let ps = (entries_from count bs 0).list in
    let t = turn bs (count - k) at (omega (arith, b.inside)) b.whole in
    let rest = (entries_from (count - k - 1) bs (next_entry bs at)).list in
    let d : drop k ps ≡ placed bs at ∷ rest = sym b.list ∙ t.list in
    let split : ps ≡ take k ps ++ (placed bs at ∷ rest) = sym (take-append-drop k ps) ∙ ap (λ (l : List Placed). take k ps ++ l) d in
    let low = passed-low name (take k ps) (placed bs at) rest (ap ascending (sym split) ∙ u) h in
    sym (lookup-low name (take k ps) (drop k ps) low) ∙ ap (lookup name) (take-append-drop k ps)

-- the first entry of names in order
pub first-is : (bs : List ℕ) (count k at : ℕ) → ascending (entries_from count bs 0).list ≡ true → k ≡ 0 → Begins bs count k at
    → entry_at bs at ≡ first_of (sort (entries_from count bs 0).list)
first-is bs count k at u e b =
    let ps = (entries_from count bs 0).list in
    let t = turn bs (count - k) at (omega (arith, b.inside)) b.whole in
    let d : placed bs at ∷ (entries_from (count - k - 1) bs (next_entry bs at)).list ≡ ps = sym t.list ∙ b.list ∙ ap (λ (n : ℕ). drop n ps) e in
    ap first_of (d ∙ ordered-sort stay u)

-- from the first place on all are left
pub from_first : (stride : ℕ) (n : List ℕ) (ps : List Placed) → lookup n (drop (stride * 0) ps) ≡ lookup n ps
from_first stride n ps = ap (λ (k : ℕ). lookup n (drop k ps)) (mul-zero stride)

-- ---- the walk from a place on

-- the name x of the entry at a place was compared
pub compared_at : (bs : List ℕ) (at : ℕ) (x n : List ℕ) (o v : Ordering) → o ≡ order_of x n → o ≡ v → x ≡ (entry_at bs at).name → order_of (entry_at bs at).name n ≡ v
compared_at bs at x n o v a b c = compared x (entry_at bs at) (entry_at bs at) n o v a b c refl

module _ (bs : List ℕ) (n at : ℕ) (h : 0 < n) (w : (entries_from n bs at).whole ≡ true) (u : ascending (entries_from n bs at).list ≡ true) where
  abbrev rest : List Placed
  rest = (entries_from (n - 1) bs (next_entry bs at)).list

  ascends : ascending (placed bs at ∷ rest) ≡ true
  ascends = ap ascending (sym (turn bs n at h w).list) ∙ u

  pub walked_more : (m : ℕ) → m ≡ n - 1 → (next : ℕ) → next ≡ next_entry bs at → ascending (entries_from m bs next).list ≡ true
  walked_more m d next e = rw (d, e) (ascending-rest (placed bs at) rest ascends)

  -- an entry that stands before a name is passed over
  pub walked-over : (name : List ℕ) → before (entry_at bs at).name name ≡ true → lookup name (placed bs at ∷ rest) ≡ lookup name rest
  walked-over name b = lookup-low name (placed bs at ∷ []) rest (cons b nil)

  -- an entry that stands after a name: the name is not there
  pub walked-past : (name : List ℕ) → before name (entry_at bs at).name ≡ true → lookup name (placed bs at ∷ rest) ≡ None
  walked-past name b = lookup-earlier name (placed bs at ∷ rest) b ascends

-- places that far apart have room for some entries, so the distance is not 0
pub stride-some : (count stride n : ℕ) → 0 < count → count ≤ stride * n → 0 < stride
stride-some count zero n h r = let z : 0 * n ≡ 0 = zero-mul n in absurd (omega arith)
stride-some count (suc k) n h r = omega arith
