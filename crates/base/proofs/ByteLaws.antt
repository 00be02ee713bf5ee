-- Laws of little-endian numbers, at every width.
use mathlib.Core.Path.{◌≡◌, refl, sym, ap, ◌∙◌}
use mathlib.Core.List.{List, [], ◌∷◌, ◌++◌, append_assoc, append-nil}
use Prim.Native.Nat.{ℕ, zero, suc, ◌+◌, ◌-◌, ◌*◌, ◌/◌, ◌%◌, ◌^◌, ◌≤◌, ◌<◌}
use native.Mathlib.Nat.{zero-add, suc-add, add-suc, add-zero, mul-zero, mul-suc, mul_comm, mul_assoc, mul-add, pow-suc, pow-succ', mod-one, mod-lt, mod-eq_of_lt, div-one, div-add-mod, div-div-eq-div-mul, add-mul-mod_self_left, mul-pos, mul-le-mul_left, lt_of_lt_of_le, mul-div_cancel_left, le-div_iff_mul-le}
use native.Mathlib.Numerals.{add-one}
use native.Mathlib.Omega.{arith}
use borrow.Rule.Slice.PartMut.{put_mid}
use lib.ListN.{length, take, drop, get_or}
use lib.Seq.{sets, sets-eq, drop-cons, drop_at, drop-drop, take-add, length-take-le, get_or-drop}
use Rattle.std.specs.Int.{byte_at, byte_worth, bytes_low_first, sum_through}
use Rattle.base.specs.Buffers.{flat, upto}
use Rattle.base.specs.Bytes.{Bytes, little_endian, bytes_of, elements}
use Rattle.base.specs.Lists.{part}
use Rattle.base.proofs.BufferLaws.{length-flat, flat-snoc, length-upto, get_or-upto, upto_is}
use Rattle.base.proofs.ListLaws.{get_or-part, length_part}

pub power_pos : (k : ℕ) → 0 < 256 ^ k
power_pos zero = omega arith
power_pos (suc k) = rw pow-suc (mul-pos (power_pos k) (omega arith))

-- a remainder by a product, by the two factors in turn
pub mod-mul : (v a b : ℕ) → 0 < a → 0 < b → v % a + a * (v / a % b) ≡ v % (a * b)
mod-mul v a b ha hb =
    let q = v / a in
    let low = v % a + a * (q % b) in
    let small : low < a * b = lt_of_lt_of_le (below (v % a) (a * (q % b)) (mod-lt v ha)) (rw (← mul-suc a (q % b)) (mul-le-mul_left a (mod-lt q hb))) in
    let split : a * q ≡ a * b * (q / b) + a * (q % b) = ap (λ (n : ℕ). a * n) (sym (div-add-mod q b)) ∙ mul-add a (b * (q / b)) (q % b) ∙ ap (λ (n : ℕ). n + a * (q % b)) (sym (mul_assoc a b (q / b))) in
    let whole : v ≡ low + a * b * (q / b) = sym (div-add-mod v a) ∙ joined (a * q) (v % a) (a * b * (q / b)) (a * (q % b)) split in
    sym (ap (λ (n : ℕ). n % (a * b)) whole ∙ add-mul-mod_self_left low (a * b) (q / b) ∙ mod-eq_of_lt small)
  where
    below : (r m : ℕ) → r < a → r + m < m + a
    below r m h = omega arith

    joined : (n r m t : ℕ) → n ≡ m + t → n + r ≡ r + t + m
    joined n r m t e = omega arith

pub length-bytes_of : (k v : ℕ) → length (bytes_of k v) ≡ k
unfolding bytes_of
length-bytes_of zero v = refl
length-bytes_of (suc k) v = ap suc (length-bytes_of k (v / 256))

-- ---- a number in two parts, the lower one first

swapped : (p x : ℕ) → p * 256 * x ≡ 256 * (p * x)
swapped p x = ap (λ (n : ℕ). n * x) (mul_comm p 256) ∙ mul_assoc 256 p x

pub little_endian-join : (j k : ℕ) (s : List ℕ) (at : ℕ) → little_endian (j + k) s at ≡ little_endian j s at + 256 ^ j * little_endian k s (at + j)
unfolding little_endian
little_endian-join zero k s at = rw (zero-add k, add-zero at) (omega arith)
little_endian-join (suc j) k s at =
    let e : at + suc j ≡ suc at + j = omega arith in
    rw (suc-add j k, e, pow-suc 256 j, swapped (256 ^ j) (little_endian k s (suc at + j)), little_endian-join j k s (suc at)) (omega arith)

-- the lower part needs the low bytes alone
pub bytes_of-low : (k v : ℕ) → bytes_of k (v % 256 ^ k) ≡ bytes_of k v
unfolding bytes_of
bytes_of-low zero v = refl
bytes_of-low (suc k) v =
    let e : v % 256 ^ suc k ≡ v % 256 + 256 * (v / 256 % 256 ^ k) = rw pow-succ' (sym (mod-mul v 256 (256 ^ k) (omega arith) (power_pos k))) in
    let m : (v % 256 + 256 * (v / 256 % 256 ^ k)) % 256 ≡ v % 256 = omega arith in
    let d : (v % 256 + 256 * (v / 256 % 256 ^ k)) / 256 ≡ v / 256 % 256 ^ k = omega arith in
    rw (e, m, d, bytes_of-low k (v / 256))

-- ---- the machine's own bytes of a number

-- a number that is read of the k + 1 bytes from place `at` on
pub little_endian-read : (k : ℕ) (s : List ℕ) (at : ℕ) → sum_through (λ i. byte_worth i (get_or s (at + i) 0)) k ≡ little_endian (k + 1) s at
unfolding little_endian
little_endian-read zero s at =
    let e : get_or s (at + 0) 0 ≡ get_or s at 0 + 256 * 0 = rw (add-zero at) (omega arith) in
    e
little_endian-read (suc k) s at =
    let upper = little_endian-join (suc k) 1 s at in
    let lower : sum_through (λ i. byte_worth i (get_or s (at + i) 0)) k ≡ little_endian (suc k) s at = rw add-one at (little_endian-read k s at) in
    omega (arith, upper, lower, mul_comm (256 ^ suc k) (get_or s (at + suc k) 0))

low_first : (i k v : ℕ) → bytes_low_first i k v ≡ bytes_of k (v / 256 ^ i)
unfolding bytes_of
low_first i zero v = refl
low_first i (suc k) v =
    let e : v / 256 ^ i / 256 ≡ v / 256 ^ suc i = div-div-eq-div-mul v (256 ^ i) 256 ∙ ap (λ (n : ℕ). v / n) (sym (pow-suc 256 i)) in
    rw (e, byte_is i v, low_first (suc i) k v)
  where
    byte_is : (i v : ℕ) → byte_at i v ≡ v / 256 ^ i % 256
    byte_is zero v = rw div-one
    byte_is (suc i) v = refl

-- the k bytes of v, copied to the part that begins at place `at`
pub written : (k v : ℕ) (s copied : List ℕ) (at : ℕ) → at + k ≤ length s → copied ≡ bytes_low_first 0 k v → put_mid at (at + k - at) s copied ≡ sets s at (bytes_of k v)
written k v s copied at h e =
    let n : at + k - at ≡ k = omega arith in
    let whole : at + length (bytes_of k v) ≤ length s = rw length-bytes_of h in
    rw (n, e, low_first 0 k v, div-one v, sets-eq (bytes_of k v) s at whole, length-bytes_of, drop-drop, append_assoc)

-- the same bytes are the same number
pub little_endian-same : (k : ℕ) (s t : List ℕ) (at : ℕ) → ((j : ℕ) → at ≤ j → j < at + k → get_or s j 0 ≡ get_or t j 0) → little_endian k s at ≡ little_endian k t at
unfolding little_endian
little_endian-same zero s t at e = refl
little_endian-same (suc k) s t at e = rw (e at (omega arith) (omega arith), little_endian-same k s t (suc at) (λ j l m. e j (omega arith) (omega arith)))

-- ---- read after a front

little_endian-cons : (k x : ℕ) (s : List ℕ) (at : ℕ) → little_endian k (x ∷ s) (suc at) ≡ little_endian k s at
unfolding little_endian
little_endian-cons zero x s at = refl
little_endian-cons (suc k) x s at = ap (λ (n : ℕ). get_or s at 0 + 256 * n) (little_endian-cons k x s (suc at))

pub little_endian-drop : (k : ℕ) (s : List ℕ) (n at : ℕ) → little_endian k (drop n s) at ≡ little_endian k s (n + at)
unfolding little_endian
little_endian-drop zero s n at = refl
little_endian-drop (suc k) s n at = rw (get_or-drop n s at 0, little_endian-drop k s n (suc at), add-suc n at)

pub little_endian-part : (k : ℕ) (s : List ℕ) (at n j : ℕ) → j + k ≤ n → little_endian k (part s at n) j ≡ little_endian k s (at + j)
unfolding little_endian
little_endian-part zero s at n j h = refl
little_endian-part (suc k) s at n j h =
    rw (get_or-part s at n j 0 (omega arith), little_endian-part k s at n (suc j) (omega arith), add-suc at j)

-- ---- what was written is read back

pub little_endian-front : (k v : ℕ) (r : List ℕ) → little_endian k (bytes_of k v ++ r) 0 ≡ v % 256 ^ k
unfolding little_endian bytes_of
little_endian-front zero v r = sym (mod-one v)
little_endian-front (suc k) v r =
    rw (little_endian-cons k (v % 256) (bytes_of k (v / 256) ++ r) 0, little_endian-front k (v / 256) r, pow-succ' 256 k) (mod-mul v 256 (256 ^ k) (omega arith) (power_pos k))

pub little_endian-sets : (k v : ℕ) (s : List ℕ) (at : ℕ) → at + k ≤ length s → little_endian k (sets s at (bytes_of k v)) at ≡ v % 256 ^ k
little_endian-sets k v s at h =
    let r = drop (at + length (bytes_of k v)) s in
    let g : at + length (bytes_of k v) ≤ length s = rw length-bytes_of h in
    let e : length (take at s) ≡ at = length-take-le at s (omega arith) in
    let z : at ≡ at + 0 = omega arith in
    rw (sets-eq (bytes_of k v) s at g, append_assoc)
    (ap (little_endian k (take at s ++ (bytes_of k v ++ r))) z
    ∙ sym (little_endian-drop k (take at s ++ (bytes_of k v ++ r)) at 0)
    ∙ ap (λ (l : List ℕ). little_endian k l 0) (drop_at (take at s) (bytes_of k v ++ r) at e)
    ∙ little_endian-front k v r)

-- the elements of a packed array
pub little_endian-flat : (k : ℕ) (ws r : List ℕ) (i : ℕ) → i < length ws → little_endian k (flat (bytes_of k) ws ++ r) (k * i) ≡ get_or ws i 0 % 256 ^ k
unfolding flat
little_endian-flat k [] r i h = absurd (omega arith)
little_endian-flat k (w ∷ ws) r zero h = rw (mul-zero k, append_assoc (bytes_of k w) (flat (bytes_of k) ws) r) (little_endian-front k w (flat (bytes_of k) ws ++ r))
little_endian-flat k (w ∷ ws) r (suc i) h =
    let e : k * suc i ≡ k + k * i = rw mul-suc (omega arith) in
    rw (append_assoc (bytes_of k w) (flat (bytes_of k) ws) r, e, ← little_endian-drop, drop_at (bytes_of k w) (flat (bytes_of k) ws ++ r) k (length-bytes_of k w)) (little_endian-flat k ws r i (omega arith))

-- all of them: a packed array of numbers of k bytes
pub elements-flat : (k : ℕ) (ws : List ℕ) → 0 < k → ((i : ℕ) → get_or ws i 0 < 256 ^ k) → elements k (flat (bytes_of k) ws) ≡ ws
unfolding elements
elements-flat k ws hk small =
    let l : length (flat (bytes_of k) ws) ≡ k * length ws = length-flat (bytes_of k) k (length-bytes_of k) ws in
    let n : length (flat (bytes_of k) ws) / k ≡ length ws = ap (λ (m : ℕ). m / k) l ∙ mul-div_cancel_left (length ws) hk in
    rw n (upto_is (λ i. little_endian k (flat (bytes_of k) ws) (k * i)) ws 0 (λ i h.
    ap (λ (s : List ℕ). little_endian k s (k * i)) (sym (append-nil (flat (bytes_of k) ws))) ∙ little_endian-flat k ws [] i h ∙ mod-eq_of_lt (small i)))

-- ---- the elements of a list of bytes

pub length-elements : (k : ℕ) (s : List ℕ) → length (elements k s) ≡ length s / k
unfolding elements
length-elements k s = length-upto (λ i. little_endian k s (k * i)) (length s / k)

pub get_or-elements : (k : ℕ) (s : List ℕ) (i : ℕ) → i < length s / k → get_or (elements k s) i 0 ≡ little_endian k s (k * i)
unfolding elements
get_or-elements k s i h = get_or-upto (λ j. little_endian k s (k * j)) (length s / k) i 0 h

-- n elements from element `at` on are a part of the bytes
module _ (k : ℕ) (s : List ℕ) (at n : ℕ) (positive : 0 < k) (h : k * (at + n) ≤ length s) where
  room : k * at + k * n ≤ length s
  room = rw (← mul-add k at n) h

  fits : at + n ≤ length s / k
  fits = (le-div_iff_mul-le positive).1 (rw mul_comm h)

  element-there : (i : ℕ) → i < n → little_endian k (part s (k * at) (k * n)) (k * i) ≡ get_or (part (elements k s) at n) i 0
  element-there i q =
      let l : k * suc i ≤ k * n = mul-le-mul_left k q in
      let m : k * i + k ≤ k * n = rw mul-suc at l in
      little_endian-part k s (k * at) (k * n) (k * i) m
      ∙ ap (little_endian k s) (sym (mul-add k at i))
      ∙ sym (get_or-elements k s (at + i) (let f = fits in omega arith))
      ∙ sym (get_or-part (elements k s) at n i 0 q)

  pub elements-part : elements k (part s (k * at) (k * n)) ≡ part (elements k s) at n
  unfolding elements
  elements-part =
      let f : ℕ → ℕ = λ i. little_endian k (part s (k * at) (k * n)) (k * i) in
      let whole : length (part (elements k s) at n) ≡ n = length_part (elements k s) at n (rw length-elements fits) in
      let count : length (part s (k * at) (k * n)) / k ≡ n = ap (λ (m : ℕ). m / k) (length_part s (k * at) (k * n) room) ∙ mul-div_cancel_left n positive in
      ap (upto f) (count ∙ sym whole) ∙ upto_is f (part (elements k s) at n) 0 (λ i q. element-there i (rw whole at q))

-- ---- what was read is written back

module _ (s : List ℕ) (small : Bytes s) where
  pub little_endian-lt : (k at : ℕ) → little_endian k s at < 256 ^ k
  unfolding little_endian
  little_endian-lt zero at = omega arith
  little_endian-lt (suc k) at = rw pow-suc (omega (arith, small at, little_endian-lt k (suc at)))

  pub bytes_of-little_endian : (k at : ℕ) → at + k ≤ length s → bytes_of k (little_endian k s at) ≡ take k (drop at s)
  unfolding little_endian bytes_of
  bytes_of-little_endian zero at h = refl
  bytes_of-little_endian (suc k) at h =
      let l : at < length s = omega arith in
      let n = little_endian k s (suc at) in
      let m : (get_or s at 0 + 256 * n) % 256 ≡ get_or s at 0 = omega (arith, small at) in
      let d : (get_or s at 0 + 256 * n) / 256 ≡ n = omega (arith, small at) in
      rw (drop-cons s at 0 l, m, d) (ap (λ (r : List ℕ). get_or s at 0 ∷ r) (bytes_of-little_endian k (suc at) (omega arith)))

  -- n elements read one after the other
  pub flat-read : (k at n : ℕ) → at + k * n ≤ length s → flat (bytes_of k) (upto (λ i. little_endian k s (at + k * i)) n) ≡ take (k * n) (drop at s)
  unfolding flat upto
  flat-read k at zero h = rw mul-zero
  flat-read k at (suc n) h =
      let m : at + (k * n + k) ≤ length s = rw mul-suc at h in
      flat-snoc (bytes_of k) (upto (λ i. little_endian k s (at + k * i)) n) (little_endian k s (at + k * n))
      ∙ rw (flat-read k at n (omega arith), bytes_of-little_endian k (at + k * n) (omega arith), ← drop-drop (k * n) at s, ← take-add (k * n) k (drop at s), mul-suc k n)
