-- The periods of a voice are those of a voice that extends it.
use Rattle.std.specs.Prelude.{Option}
use mathlib.Core.Path.{◌≡◌, refl, sym, ap, ◌∙◌}
use mathlib.Core.Bool.{true}
use mathlib.Core.List.{List}
use mathlib.Core.Logic.{⊎_elim}
use Prim.Native.Nat.{ℕ, zero, suc, ◌+◌, ◌*◌, ◌≤◌, ◌<◌}
use native.Mathlib.Nat.{eq-or-lt_of_le, le_of_suc-le-suc, le_refl, suc-mul, mul-le-mul_right}
use native.Mathlib.Omega.{arith}
use borrow.Author.Tests.{leb-true}
use lib.Dec.{leb}
use lib.ListN.{length, take, drop, get_or}
use lib.Seq.{get_or-take, take-take, take-add, drop-append_seam}
use Rattle.base.specs.Lists.{part}
use Rattle.base.specs.Buffers.{upto}
use Rattle.base.specs.Bytes.{u16_at}
use Rattle.base.proofs.ListLaws.{and_left, and_right}
use Rattle.base.proofs.BufferLaws.{upto-same}
use Rattle.base.proofs.ByteLaws.{little_endian-same}
use Rattle.voice.specs.Voice.{Voice}
use Rattle.voice.specs.Periods.{offset, gap, residual_of, sized_by, samples_of, samples_from, row_of, longest}
use Rattle.voice.specs.Opening.{rising_in}
use Rattle.voice.specs.Extends.{Extends, SameSizes, neither, both}

-- ---- lists that agree in their first k elements

get_or-agree : (k : ℕ) (a b : List ℕ) → take k a ≡ take k b → (j : ℕ) → j < k → get_or a j 0 ≡ get_or b j 0
get_or-agree k a b e j h = sym (get_or-take k a j 0 h) ∙ ap (λ (l : List ℕ). get_or l j 0) e ∙ get_or-take k b j 0 h

take-agree : (k : ℕ) (a b : List ℕ) → take k a ≡ take k b → (j : ℕ) → j ≤ k → take j a ≡ take j b
take-agree k a b e j h = sym (take-take j k a h) ∙ ap (take j) e ∙ take-take j k b h

part-is : (s m : ℕ) (l : List ℕ) → part l s m ≡ drop (length (take s l)) (take (s + m) l)
part-is s m l = sym (ap (drop (length (take s l))) (take-add s m l) ∙ drop-append_seam (take s l) (take m (drop s l)))

part-agree : (k : ℕ) (a b : List ℕ) → take k a ≡ take k b → (s m : ℕ) → s + m ≤ k → part a s m ≡ part b s m
part-agree k a b e s m h =
    let p = take-agree k a b e s (omega arith) in
    let q = take-agree k a b e (s + m) h in
    part-is s m a ∙ rw (p, q) (sym (part-is s m b))

-- ---- offsets that do not fall

pub rising_le : (v : Voice) (n : ℕ) → rising_in v.offsets n ≡ true → (i : ℕ) → i ≤ n → offset v i ≤ offset v n
unfolding rising_in offset
rising_le v zero e i h = let z : i ≡ 0 = omega arith in rw z (le_refl _)
rising_le v (suc n) e i h = ⊎_elim (λ q. rw q (le_refl _)) (λ l. lower (rising_le v n (and_right (leb (offset v n) (offset v (suc n))) (rising_in v.offsets n) e) i (le_of_suc-le-suc l))) (eq-or-lt_of_le h)
  where
    lower : offset v i ≤ offset v n → offset v i ≤ offset v (suc n)
    lower a = let b : offset v n ≤ offset v (suc n) = leb-true (offset v n) (offset v (suc n)) (and_left (leb (offset v n) (offset v (suc n))) (rising_in v.offsets n) e) in omega arith

pub rising-upto : (v : Voice) (n : ℕ) → rising_in v.offsets n ≡ true → (i : ℕ) → i < n → offset v i ≤ offset v (suc i)
unfolding rising_in offset
rising-upto v zero e i h = absurd (omega arith)
rising-upto v (suc n) e i h = ⊎_elim here (rising-upto v n (and_right (leb (offset v n) (offset v (suc n))) (rising_in v.offsets n) e) i) (eq-or-lt_of_le (le_of_suc-le-suc h))
  where
    here : i ≡ n → offset v i ≤ offset v (suc i)
    here q = rw q (leb-true (offset v n) (offset v (suc n)) (and_left (leb (offset v n) (offset v (suc n))) (rising_in v.offsets n) e))

-- ---- two voices with the same first n periods

pub record Agree (v w : Voice) (n : ℕ) : Type 0 where
  pub samples : (p : ℕ) → p < n → samples_of w p ≡ samples_of v p
  pub rows : (p : ℕ) → p < n → row_of w p ≡ row_of v p
  pub residuals : (p : ℕ) → p < n → residual_of w p ≡ residual_of v p
  pub codec : w.header.codec ≡ v.header.codec

module _ (v w : Voice) (x : Extends w v) (r : rising_in v.offsets v.header.frames ≡ true) where
  abbrev n : ℕ
  n = v.header.frames

  offset-same : (i : ℕ) → i ≤ n → offset w i ≡ offset v i
  unfolding offset
  offset-same i h = little_endian-same 4 w.offsets v.offsets (4 * i) (λ j l m. get_or-agree ((n + 1) * 4) w.offsets v.offsets x.offsets j (omega arith))

  gap_same : (p : ℕ) → p < n → gap w p ≡ gap v p
  gap_same p h =
      let a = offset-same p (omega arith) in
      let b = offset-same (suc p) h in
      rw (a, b)

  sized_same : (a b : Option (List ℕ)) → SameSizes n a b → (p : ℕ) → p < n → (g : ℕ) → sized_by a p g ≡ sized_by b p g
  sized_same a b neither p h g = refl
  sized_same a b (both {a = s} {b = t} e) p h g = get_or-agree n s t e p h

  samples-same : (p : ℕ) → p < n → samples_of w p ≡ samples_of v p
  unfolding samples_of
  samples-same p h = let g = gap_same p h in rw g (sized_same w.sizes v.sizes x.sizes p h (gap v p))

  row_same : (p : ℕ) → p < n → row_of w p ≡ row_of v p
  unfolding row_of
  row_same p h =
      ap (λ (o : ℕ). upto (λ k. u16_at w.lpc (p * o + k)) o) x.order
      ∙ upto-same (λ k. u16_at w.lpc (p * v.header.order + k)) (λ k. u16_at v.lpc (p * v.header.order + k)) v.header.order at
    where
      at : (k : ℕ) → k < v.header.order → u16_at w.lpc (p * v.header.order + k) ≡ u16_at v.lpc (p * v.header.order + k)
      at k l =
          let m : suc p * v.header.order ≤ n * v.header.order = mul-le-mul_right v.header.order h in
          let m' : p * v.header.order + v.header.order ≤ n * v.header.order = rw suc-mul at m in
          little_endian-same 2 w.lpc v.lpc (2 * (p * v.header.order + k)) (λ j a b. get_or-agree (n * v.header.order * 2) w.lpc v.lpc x.rows j (omega arith))

  residual-same : (p : ℕ) → p < n → residual_of w p ≡ residual_of v p
  unfolding residual_of
  residual-same p h =
      let a = offset-same p (omega arith) in
      let b = offset-same (suc p) h in
      let c = rising_le v n r (suc p) h in
      let d = rising_le v n r p (omega arith) in
      rw (a, b) (part-agree (offset v n) w.residual v.residual x.residual (offset v p) (gap v p) (omega arith))

  pub agrees : Agree v w v.header.frames
  agrees = record { samples = samples-same; rows = row_same; residuals = residual-same; codec = x.codec }

-- the samples of periods below n
pub samples_from-same : (v w : Voice) (n : ℕ) → Agree v w n → (p k : ℕ) → p + k ≤ n → samples_from w p k ≡ samples_from v p k
unfolding samples_from
samples_from-same v w n g p zero h = refl
samples_from-same v w n g p (suc k) h = rw (g.samples p (omega arith), samples_from-same v w n g (suc p) k (omega arith))

-- a period that is no longer than those before it leaves the longest
pub longest-stays : (v : Voice) (p most : ℕ) → longest v p ≡ most → gap v p ≤ most → longest v (suc p) ≡ most
unfolding longest
longest-stays v p most e h = omega (arith, e, h)
