-- Loading a filter state from bytes and storing it undo each other.
use mathlib.Core.Path.{◌≡◌, refl, sym, ap, ◌∙◌}
use mathlib.Core.Bool.{Bool, true, false}
use mathlib.Core.List.{List, ◌++◌, append_assoc}
use Prim.Native.Nat.{ℕ, zero, suc, ◌+◌, ◌*◌, ◌%◌, ◌^◌, ◌≤◌, ◌<◌}
use native.Mathlib.Nat.{mod-eq_of_lt}
use native.Mathlib.Omega.{arith}
use lib.Dec.{T}
use lib.IntN.{pos}
use lib.ListN.{length, get_or, take, drop, replicate, take-append-drop}
use lib.Seq.{drop_at, drop-drop, take-add, length-take-le}
use lib.Ieee.{Float, nan, fin, binary32, fits, nan_bits, of_bits, to_bits}
use lib.Ieee.Bits.{to_bits-lt}
use Rattle.base.specs.Buffers.{over, flat, upto}
use Rattle.base.specs.Bytes.{Bytes, little_endian, bytes_of}
use Rattle.base.proofs.BufferLaws.{get_or-upto, length-upto, upto_is, upto-same}
use Rattle.base.proofs.ByteLaws.{length-bytes_of, little_endian-drop, little_endian-front, little_endian-flat, little_endian-lt, bytes_of-little_endian, flat-read}
use Rattle.float.proofs.Laws.{float_back, word_back, nan-word}
use Rattle.float.proofs.Tests.{yes, no}
use Rattle.lpc.specs.declared.ResynthType.{ResynthType}
use Rattle.lpc.specs.declared.ResynthType.TheVariants.{Fixed, Float as FloatType}
use Rattle.lpc.specs.declared.FilterState.{FilterState}
use Rattle.c_state.specs.State.{filter_number, filter_numbered, history_at, fixed_in, float_in, state_with, state_of, word_by, word_of, head_bytes, history_bytes, bytes_of_state}

-- ---- what is read from stored bytes

past : (k n m : ℕ) (p r : List ℕ) → length p ≡ n → little_endian k (p ++ r) (n + m) ≡ little_endian k r m
past k n m p r e = sym (little_endian-drop k (p ++ r) n m) ∙ ap (λ (l : List ℕ). little_endian k l m) (drop_at p r n e)

past4 : (k m v : ℕ) (r : List ℕ) → little_endian k (bytes_of 4 v ++ r) (4 + m) ≡ little_endian k r m
past4 k m v r = past k 4 m (bytes_of 4 v) r (length-bytes_of 4 v)

past8 : (k m v : ℕ) (r : List ℕ) → little_endian k (bytes_of 8 v ++ r) (8 + m) ≡ little_endian k r m
past8 k m v r = past k 8 m (bytes_of 8 v) r (length-bytes_of 8 v)

front : (k v : ℕ) (r : List ℕ) → v < 256 ^ k → little_endian k (bytes_of k v ++ r) 0 ≡ v
front k v r h = little_endian-front k v r ∙ mod-eq_of_lt h

-- seven numbers, and t after them
module _ (a b c e f g h : ℕ) (t : List ℕ) where
  abbrev t₇ : List ℕ
  t₇ = bytes_of 8 h ++ t

  abbrev t₆ : List ℕ
  t₆ = bytes_of 8 g ++ t₇

  abbrev t₅ : List ℕ
  t₅ = bytes_of 4 f ++ t₆

  abbrev t₄ : List ℕ
  t₄ = bytes_of 4 e ++ t₅

  abbrev t₃ : List ℕ
  t₃ = bytes_of 4 c ++ t₄

  abbrev t₂ : List ℕ
  t₂ = bytes_of 4 b ++ t₃

  abbrev t₁ : List ℕ
  t₁ = bytes_of 4 a ++ t₂

  past₃ : (k m : ℕ) → little_endian k t₁ (12 + m) ≡ little_endian k t₄ m
  past₃ k m =
      ap (little_endian k t₁) (omega arith) ∙ past4 k (4 + (4 + m)) a t₂ ∙ past4 k (4 + m) b t₃ ∙ past4 k m c t₄

  past₅ : (k m : ℕ) → little_endian k t₁ (20 + m) ≡ little_endian k t₆ m
  past₅ k m = ap (little_endian k t₁) (omega arith) ∙ past₃ k (4 + (4 + m)) ∙ past4 k (4 + m) e t₅ ∙ past4 k m f t₆

  past₇ : (k m : ℕ) → little_endian k t₁ (36 + m) ≡ little_endian k t m
  past₇ k m = ap (little_endian k t₁) (omega arith) ∙ past₅ k (8 + (8 + m)) ∙ past8 k (8 + m) g t₇ ∙ past8 k m h t

  module _ (small : (a < 2 ^ 32) × ((b < 2 ^ 32) × ((c < 2 ^ 32) × ((e < 2 ^ 32) × ((f < 2 ^ 32) × ((g < 2 ^ 64) × (h < 2 ^ 64))))))) where
    read₁ : little_endian 4 t₁ 0 ≡ a
    read₁ = front 4 a t₂ small.0

    read₂ : little_endian 4 t₁ 4 ≡ b
    read₂ = past4 4 0 a t₂ ∙ front 4 b t₃ small.1.0

    read₃ : little_endian 4 t₁ 8 ≡ c
    read₃ = past4 4 4 a t₂ ∙ past4 4 0 b t₃ ∙ front 4 c t₄ small.1.1.0

    read₄ : little_endian 4 t₁ 12 ≡ e
    read₄ = past₃ 4 0 ∙ front 4 e t₅ small.1.1.1.0

    read₅ : little_endian 4 t₁ 16 ≡ f
    read₅ = past₃ 4 4 ∙ past4 4 0 e t₅ ∙ front 4 f t₆ small.1.1.1.1.0

    read₆ : little_endian 8 t₁ 20 ≡ g
    read₆ = past₅ 8 0 ∙ front 8 g t₇ small.1.1.1.1.1.0

    read₇ : little_endian 8 t₁ 28 ≡ h
    read₇ = past₅ 8 8 ∙ past8 8 0 g t₇ ∙ front 8 h t small.1.1.1.1.1.1

-- ---- loading what was stored

-- the numbers fit, and the history has 33 places; the other filter's is 0
pub data HistoryFits (s : FilterState) : ResynthType → Type 0 where
  fixed : length s.fixed ≡ 33 → ((i : ℕ) → get_or s.fixed i 0 < 2 ^ 32) → s.float ≡ replicate 33 (fin false 0 (pos 0)) → HistoryFits s Fixed
  float : length s.float ≡ 33 → ((i : ℕ) → i < 33 → T (fits binary32 (get_or s.float i nan))) → s.fixed ≡ replicate 33 0 → HistoryFits s FloatType

pub record Storable (s : FilterState) : Type 0 where
  pub order_low : s.order < 2 ^ 32
  pub place_low : s.ring_place < 2 ^ 32
  pub period_low : s.period < 2 ^ 64
  pub sample_low : s.sample_place < 2 ^ 64
  pub least_fits : T (fits binary32 s.coeff_min)
  pub range_fits : T (fits binary32 s.coeff_range)
  pub history : HistoryFits s s.filter

filter-back : (t : ResynthType) → filter_numbered (filter_number t) ≡ t
filter-back Fixed = refl
filter-back FloatType = refl

number-low : (t : ResynthType) → filter_number t < 2 ^ 32
number-low Fixed = omega arith
number-low FloatType = omega arith

-- the histories, where place i says the word of s
history-back : (s : FilterState) (t : ResynthType) (w : List ℕ) → HistoryFits s t → ((i : ℕ) → i < 33 → history_at w i ≡ word_by t s i % 2 ^ 32)
    → (fixed_in t w ≡ s.fixed) × (float_in t w ≡ s.float)
history-back s Fixed w (fixed l b z) e =
    (rw l at (upto_is (history_at w) s.fixed 0 (λ i q. e i (rw l at q) ∙ mod-eq_of_lt (b i))), sym z)
history-back s FloatType w (float l b z) e = (sym z, rw l at (upto_is (λ i. of_bits binary32 (history_at w i)) s.float nan (λ i q. one i (rw l at q))))
  where
    one : (i : ℕ) → i < 33 → of_bits binary32 (history_at w i) ≡ get_or s.float i nan
    one i q = ap (of_bits binary32) (e i q ∙ mod-eq_of_lt (to_bits-lt binary32 (get_or s.float i nan) (b i q))) ∙ float_back (get_or s.float i nan) (b i q)

rebuilt : (s : FilterState) (t : ResynthType) (w : List ℕ) → t ≡ s.filter → little_endian 4 w 4 ≡ s.order → little_endian 4 w 8 ≡ s.ring_place
    → of_bits binary32 (little_endian 4 w 12) ≡ s.coeff_min → of_bits binary32 (little_endian 4 w 16) ≡ s.coeff_range
    → little_endian 8 w 20 ≡ s.period → little_endian 8 w 28 ≡ s.sample_place
    → (x : List ℕ) (y : List Float) → x ≡ s.fixed → y ≡ s.float → state_with t x y w ≡ s
rebuilt s t w a b c e f g h x y i j = rw (a, b, c, e, f, g, h, i, j)

module _ (s : FilterState) (d : List ℕ) where
  -- the bytes stored, number by number
  abbrev rest : List ℕ
  rest = history_bytes s ++ drop (length (bytes_of_state s)) d

  abbrev whole : List ℕ
  whole = t₁ (filter_number s.filter) s.order s.ring_place (to_bits binary32 s.coeff_min) (to_bits binary32 s.coeff_range) s.period s.sample_place rest

  stored_is : over (bytes_of_state s) d ≡ whole
  unfolding over bytes_of_state head_bytes
  stored_is = simp append_assoc

  word-stored : (i : ℕ) → i < 33 → history_at whole i ≡ word_of s i % 2 ^ 32
  word-stored i h =
      past₇ (filter_number s.filter) s.order s.ring_place (to_bits binary32 s.coeff_min) (to_bits binary32 s.coeff_range) s.period s.sample_place rest 4 (4 * i)
      ∙ little_endian-flat 4 (upto (word_of s) 33) (drop (length (bytes_of_state s)) d) i (rw length-upto h)
      ∙ ap (λ (w : ℕ). w % 2 ^ 32) (get_or-upto (word_of s) 33 i 0 h)

  -- a state that is stored and loaded is the same
  module _ (p : Storable s) where
    low : (filter_number s.filter < 2 ^ 32) × ((s.order < 2 ^ 32) × ((s.ring_place < 2 ^ 32) × ((to_bits binary32 s.coeff_min < 2 ^ 32) × ((to_bits binary32 s.coeff_range < 2 ^ 32) × ((s.period < 2 ^ 64) × (s.sample_place < 2 ^ 64))))))
    low = (
      number-low s.filter,
      (p.order_low, (p.place_low, (to_bits-lt binary32 s.coeff_min p.least_fits, (to_bits-lt binary32 s.coeff_range p.range_fits, (p.period_low, p.sample_low))))),
    )

    whole_back : state_of whole ≡ s
    unfolding state_of
    whole_back =
        let n = s.filter in
        let x = to_bits binary32 s.coeff_min in
        let y = to_bits binary32 s.coeff_range in
        let q = s.ring_place in
        let r = s.sample_place in
        let e : filter_numbered (little_endian 4 whole 0) ≡ n = ap filter_numbered (read₁ (filter_number n) s.order q x y s.period r rest low) ∙ filter-back n in
        let h = history-back s n whole p.history word-stored in
        rebuilt s (filter_numbered (little_endian 4 whole 0)) whole e (read₂ (filter_number n) s.order q x y s.period r rest low) (read₃ (filter_number n) s.order q x y s.period r rest low)
        (ap (of_bits binary32) (read₄ (filter_number n) s.order q x y s.period r rest low) ∙ float_back s.coeff_min p.least_fits)
        (ap (of_bits binary32) (read₅ (filter_number n) s.order q x y s.period r rest low) ∙ float_back s.coeff_range p.range_fits)
        (read₆ (filter_number n) s.order q x y s.period r rest low)
        (read₇ (filter_number n) s.order q x y s.period r rest low)
        _ _
        (ap (λ (t : ResynthType). fixed_in t whole) e ∙ h.0)
        (ap (λ (t : ResynthType). float_in t whole) e ∙ h.1)

    pub loads-back : state_of (over (bytes_of_state s) d) ≡ s
    loads-back = ap state_of stored_is ∙ whole_back

-- ---- storing what was loaded

-- the bits of an f32 that are kept: no NaN's, or 0x7FC00000
abbrev pub Kept : ℕ → Type 0
Kept w = T (nan_bits binary32 w) → w ≡ 0x7fc0_0000

-- bytes of a state, with no other NaN in a scale or in the history of a float filter
pub record Loadable (b : List ℕ) : Type 0 where
  pub bytes : Bytes b
  pub long : 168 ≤ length b
  pub filter_low : little_endian 4 b 0 ≤ 1
  pub least_kept : Kept (little_endian 4 b 12)
  pub range_kept : Kept (little_endian 4 b 16)
  pub history_kept : filter_numbered (little_endian 4 b 0) ≡ FloatType → (i : ℕ) → i < 33 → Kept (history_at b i)

bits_back : (w : ℕ) → w < 2 ^ 32 → Kept w → to_bits binary32 (of_bits binary32 w) ≡ w
bits_back w h k = go (nan_bits binary32 w) refl
  where
    go : (t : Bool) → nan_bits binary32 w ≡ t → to_bits binary32 (of_bits binary32 w) ≡ w
    go true e = nan-word w (yes e) ∙ sym (k (yes e))
    go false e = word_back w h (no e)

number-back : (n : ℕ) → n ≤ 1 → filter_number (filter_numbered n) ≡ n
number-back zero h = refl
number-back (suc zero) h = refl
number-back (suc (suc n)) h = absurd (omega arith)

module _ (b : List ℕ) (p : Loadable b) where
  low-at : (at : ℕ) → little_endian 4 b at < 2 ^ 32
  low-at at = little_endian-lt b p.bytes 4 at

  word-loaded : (t : ResynthType) → (t ≡ FloatType → (i : ℕ) → i < 33 → Kept (history_at b i)) → (i : ℕ) → i < 33
      → word_by t (state_with t (fixed_in t b) (float_in t b) b) i ≡ history_at b i
  word-loaded Fixed k i h = get_or-upto (history_at b) 33 i 0 h
  word-loaded FloatType k i h =
      ap (to_bits binary32) (get_or-upto (λ j. of_bits binary32 (history_at b j)) 33 i nan h) ∙ bits_back (history_at b i) (low-at (36 + 4 * i)) (k refl i h)

  history-stored : history_bytes (state_of b) ≡ take 132 (drop 36 b)
  unfolding state_of
  history-stored =
      ap (flat (bytes_of 4)) (upto-same _ (history_at b) 33 (word-loaded (filter_numbered (little_endian 4 b 0)) p.history_kept))
      ∙ flat-read b p.bytes 4 36 33 p.long

  part_at : (k at : ℕ) → at + k ≤ 168 → bytes_of k (little_endian k b at) ≡ take k (drop at b)
  part_at k at h = bytes_of-little_endian b p.bytes k at (let l = p.long in omega arith)

  -- a part and the part after it
  next-part : (at k n : ℕ) → take k (drop at b) ++ take n (drop (at + k) b) ≡ take (k + n) (drop at b)
  next-part at k n = ap (λ (l : List ℕ). take k (drop at b) ++ take n l) (sym (drop-drop k at b)) ∙ sym (take-add k n (drop at b))

  head-stored : head_bytes (state_of b) ≡ take 36 b
  unfolding head_bytes state_of
  head-stored =
      rw (
        number-back (little_endian 4 b 0) p.filter_low,
        bits_back (little_endian 4 b 12) (low-at 12) p.least_kept,
        bits_back (little_endian 4 b 16) (low-at 16) p.range_kept,
        part_at 4 0 (omega arith),
        part_at 4 4 (omega arith),
        part_at 4 8 (omega arith),
        part_at 4 12 (omega arith),
        part_at 4 16 (omega arith),
        part_at 8 20 (omega arith),
        part_at 8 28 (omega arith),
        next-part 20 8 8,
        next-part 16 4 16,
        next-part 12 4 20,
        next-part 8 4 24,
        next-part 4 4 28,
        next-part 0 4 32,
      )

  state-stored : bytes_of_state (state_of b) ≡ take 168 b
  unfolding bytes_of_state
  state-stored = rw (head-stored, history-stored) (next-part 0 36 132)

  over-taken : over (take 168 b) b ≡ b
  unfolding over
  over-taken = ap (λ (n : ℕ). take 168 b ++ drop n b) (length-take-le 168 b p.long) ∙ take-append-drop 168 b

  -- bytes that are loaded and stored are the same
  pub stores_back : over (bytes_of_state (state_of b)) b ≡ b
  stores_back = ap (λ (l : List ℕ). over l b) state-stored ∙ over-taken
