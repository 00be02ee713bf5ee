-- A source, the window it is put into, and the period nearest to a place: one turn at a time.
use mathlib.Core.Path.{◌≡◌, refl, sym, ap, ◌∙◌}
use mathlib.Core.Bool.{true, false}
use mathlib.Core.List.{List, [], ◌∷◌, ◌++◌, append_assoc}
use Prim.Native.Nat.{ℕ, suc, min, ◌+◌, ◌-◌, ◌*◌, ◌/◌, ◌≤◌, ◌<◌}
use native.Mathlib.Omega.{arith}
use native.Mathlib.Numerals.{add-one}
use native.Mathlib.Nat.{zero-add}
use borrow.Rule.Slice.PartMut.{put_mid}
use borrow.Author.Tests.{lt-ltb, le-ltb}
use lib.ListN.{length, take, drop, get_or, set, replicate, length-replicate, length-take, length-drop, drop_of_length-le}
use lib.Seq.{sets, sets-eq, drop-drop, take_all, take-suc, length-take-le}
use lib.Ieee.{Float, binary32, add}
use Rattle.base.specs.Lists.{part}
use Rattle.base.proofs.ListLaws.{part-part}
use Rattle.base.proofs.CaseLaws.{by_order}
use Rattle.base.proofs.BufferLaws.{sets-append}
use Rattle.float.specs.Distance.{nearer}
use Rattle.adpcm.specs.Decoder.{decoded}
use Rattle.adpcm.proofs.Turns.{length-decoded}
use Rattle.voice.specs.declared.Codec.TheVariants.{Ulaw, G721}
use Rattle.voice.specs.Voice.{Voice}
use Rattle.voice.specs.Periods.{samples_of, samples_from}
use Rattle.excitation.specs.Source.{decoded_by, Holds, source_by, centred}
use Rattle.excitation.specs.Nearest.{f32_of, nearest_from}

-- ---- bytes written

-- one more of them
pub copied_more : (b s : List ℕ) (at i : ℕ) → i < length s → set (sets b at (take i s)) (at + i) (get_or s i 0) ≡ sets b at (take (i + 1) s)
copied_more b s at i h =
    let e : length (take i s) ≡ i = length-take-le i s (omega arith) in
    sym (ap (λ (t : List ℕ). sets b at t) (ap (λ (n : ℕ). take n s) (add-one i) ∙ take-suc s i 0 h) ∙ sets-append b at (take i s) (get_or s i 0 ∷ []) ∙ ap (λ (n : ℕ). set (sets b at (take i s)) (at + n) (get_or s i 0)) e)

-- all of them at once
pub put_at : (b s : List ℕ) (at n : ℕ) → at + n ≤ length b → length s ≡ n → put_mid at (at + n - at) b s ≡ sets b at s
put_at b s at n h e =
    let m : at + n - at ≡ length s = omega (arith, e) in
    rw (m, sets-eq s b at (omega (arith, h, e)), drop-drop, append_assoc)

-- ---- the window

-- the source is shorter: filler, the source, filler
pub window-short : (b s : List ℕ) (at size : ℕ) → length s < size
    → let before = (size - length s) / 2 in
    sets (sets (sets b at (replicate before 255)) (at + before) s) (at + before + length s) (replicate (size - length s - before) 255) ≡ sets b at (centred size s)
unfolding centred
window-short b s at size h =
    let before = (size - length s) / 2 in
    let t = lt-ltb (length s) size h in
    let rest : List ℕ = replicate (size - length s - before) 255 in
    let l : length {A = ℕ} (replicate before 255) ≡ before = length-replicate {A = ℕ} before 255 in
    rw t
    (sym
    (sets-append b at (replicate before 255) (s ++ rest)
    ∙ ap (λ (n : ℕ). sets (sets b at (replicate before 255)) (at + n) (s ++ rest)) l
    ∙ sets-append (sets b at (replicate before 255)) (at + before) s rest))

-- it is not: a part of it
pub window-long : (b s : List ℕ) (at size : ℕ) → size ≤ length s → sets b at (part s ((length s - size) / 2) size) ≡ sets b at (centred size s)
unfolding centred
window-long b s at size h = let t = le-ltb (length s) size h in rw t

-- ---- the source

pub source-ulaw : (residual : List ℕ) → residual ≡ source_by Ulaw residual
unfolding source_by
source-ulaw residual = refl

module _ (buffer residual : List ℕ) (h : Holds G721 buffer residual) where
  held : take (2 * length residual) buffer ≡ decoded residual
  unfolding decoded_by
  held = ap (λ (n : ℕ). take n buffer) (sym (length-decoded residual)) ∙ h

  -- the buffer is long enough
  pub source-within : 2 * length residual ≤ length buffer
  source-within =
      let e : length (take (2 * length residual) buffer) ≡ 2 * length residual = ap length held ∙ length-decoded residual in
      let f = length-take (2 * length residual) buffer in
      omega (arith, e, f)

  pub source-g721 : (from : ℕ) → from ≡ min 8 (2 * length residual) → take (2 * length residual - from) (drop from buffer) ≡ source_by G721 residual
  unfolding source_by
  source-g721 from e =
      let n = 2 * length residual in
      let l : from ≤ n = omega (arith, e) in
      let p = part-part buffer 0 n from (n - from) (omega arith) in
      let k : length (drop from (decoded residual)) ≤ n - from = rw (length-drop from (decoded residual), length-decoded residual) (omega arith) in
      sym (rw zero-add at p)
      ∙ ap (λ (t : List ℕ). take (n - from) (drop from t)) held
      ∙ take_all (n - from) (drop from (decoded residual)) k
      ∙ by_order n 8 (λ h. short h) (λ h. long h)
    where
      short : 2 * length residual < 8 → drop from (decoded residual) ≡ drop 8 (decoded residual)
      short h =
          let a : length (decoded residual) ≤ from = rw length-decoded (omega (arith, e, h)) in
          let b : length (decoded residual) ≤ 8 = rw length-decoded (omega (arith, h)) in
          drop_of_length-le (decoded residual) a ∙ sym (drop_of_length-le (decoded residual) b)

      long : 8 ≤ 2 * length residual → drop from (decoded residual) ≡ drop 8 (decoded residual)
      long h = ap (λ (k : ℕ). drop k (decoded residual)) (let q : from ≡ 8 = omega (arith, e, h) in q)

-- ---- the nearest period

module _ (v : Voice) (place : Float) where
  pub nearest-here : (start : Float) (p last : ℕ) → p < last → nearer place start (add binary32 start (f32_of (samples_of v p))) ≡ true → nearest_from v place start p (last - p) ≡ p
  unfolding nearest_from
  nearest-here start p last h e =
      let m : last - p ≡ suc (last - suc p) = omega arith in
      rw (m, e)

  pub nearest-next : (start : Float) (p last : ℕ) → p < last → nearer place start (add binary32 start (f32_of (samples_of v p))) ≡ false
      → nearest_from v place (add binary32 start (f32_of (samples_of v p))) (p + 1) (last - (p + 1)) ≡ nearest_from v place start p (last - p)
  unfolding nearest_from
  nearest-next start p last h e =
      let m : last - p ≡ suc (last - suc p) = omega arith in
      rw (m, e, add-one p)

  pub nearest-last : (start : Float) (p last : ℕ) → last ≤ p → nearest_from v place start p (last - p) ≡ p - 1
  unfolding nearest_from
  nearest-last start p last h =
      let m : last - p ≡ 0 = omega arith in
      rw m

-- ---- samples, summed from the last on

pub samples-more : (v : Voice) (p to : ℕ) → p < to → samples_of v p + samples_from v (p + 1) (to - (p + 1)) ≡ samples_from v p (to - p)
unfolding samples_from
samples-more v p to h =
    let m : to - p ≡ suc (to - suc p) = omega arith in
    rw (m, add-one p)

pub swapped : (a b : ℕ) → a + b ≡ b + a
swapped a b = omega arith
