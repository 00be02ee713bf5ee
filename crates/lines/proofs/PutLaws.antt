-- Texts put one after the other.
use mathlib.Core.Path.{◌≡◌, refl, ap, sym, ◌∙◌}
use mathlib.Core.List.{List, [], ◌++◌}
use Prim.Native.Nat.{ℕ, ◌+◌, ◌-◌, ◌*◌, ◌^◌, ◌≤◌, ◌<◌}
use native.Mathlib.Nat.{zero-add, mul-add}
use native.Mathlib.Omega.{arith}
use lib.ListN.{length, take, length-append}
use lib.Seq.{length-sets}
use mathlib.Core.Bool.{true, false}
use lib.IntN.{ℤ, pos, nat_abs}
use lib.Signed.{lt_z}
use mir.Syntax.{w16}
use mir.Val.{of_z, to_z}
use mir.Facts.{to_z_pos}
use borrow.Author.Tests.{le-ltb}
use Rattle.std.proofs.lemmas.Int.{ints}
use Rattle.base.proofs.CaseLaws.{by_order}
use Rattle.base.specs.Buffers.{over, flat, upto}
use Rattle.base.proofs.BufferLaws.{take-over, sets-append, sets_over, upto-more, flat-snoc}
use Rattle.lines.specs.Lines.{Puts}

pub put-none : (d : List ℕ) (at : ℕ) → Puts d at [] d at
put-none d at = record { left = refl; ended = omega arith }

-- a text, and then another
pub put-more : {d e f s t : List ℕ} {at i j : ℕ} → Puts d at s e i → Puts e i t f j → Puts d at (s ++ t) f j
put-more {d} {e} {f} {s} {t} {at} {i} {j} p q =
    record {
      left = q.left ∙ rw (p.left, p.ended) (sym (sets-append d at s t));
      ended = simp length-append (omega (arith, p.ended, q.ended));
    }

-- a text that was copied to the front
pub put_front : (s d : List ℕ) {e : List ℕ} → length s ≤ length d → e ≡ over s d → Puts d 0 s e (length s)
put_front s d h q = record { left = q ∙ sym (sets_over s d h); ended = sym (zero-add (length s)) }

-- a text that was put to the front, read back
pub put-taken : {d e s : List ℕ} {n : ℕ} → Puts d 0 s e n → n ≤ length d → take n e ≡ s
put-taken {d} {e} {s} {n} p h =
    let l : length s ≡ n = omega (arith, p.ended) in
    ap (take n) (p.left ∙ sets_over s d (omega arith)) ∙ take-over s d n l

-- a buffer keeps its length
pub put-length : {d e s : List ℕ} {at i : ℕ} → Puts d at s e i → length e ≡ length d
put-length {d} {e} {s} {at} p = ap length p.left ∙ length-sets d at s

-- ---- a loop that puts a text of up to w bytes for each of f 0, f 1, ..: after i turns

pub record At {A : Type 0} (text : A → List ℕ) (w : ℕ) (f : ℕ → A) (n : ℕ) (d : List ℕ) (at : ℕ) (e : List ℕ) (end i : ℕ) : Type 0 where
  pub puts : Puts d at (flat text (upto f i)) e end
  pub most : i ≤ n
  pub near : end ≤ at + w * i
  pub same : length e ≡ length d

module _ {A : Type 0} (text : A → List ℕ) (w : ℕ) (f : ℕ → A) (n : ℕ) (d : List ℕ) (at : ℕ) where
  pub start : At text w f n d at d at 0
  unfolding flat upto
  start = record { puts = put-none d at; most = omega arith; near = omega arith; same = refl }

  pub turn : {e g : List ℕ} {end j : ℕ} {a : A} (i : ℕ) → At text w f n d at e end i → i < n → a ≡ f i → Puts e end (text a) g j → j ≤ end + w → At text w f n d at g j (i + 1)
  turn {e} {g} {end} {j} {a} i t h q p l =
      record {
        puts = rw (upto-more f i, flat-snoc text (upto f i) (f i)) (put-more t.puts (rw q at p));
        most = omega arith;
        near = rw (mul-add w i 1) (omega (arith, t.near, l));
        same = put-length p ∙ t.same;
      }

  pub end_of : {e : List ℕ} {end : ℕ} (i : ℕ) → At text w f n d at e end i → n ≤ i → Puts d at (flat text (upto f n)) e end × (end ≤ at + w * n)
  end_of i t h =
      let q : i ≡ n = omega (arith, t.most, h) in
      (rw q at t.puts, rw q at t.near)

-- ---- a sample's word, as a signed number

module _ (w : ℕ) (z : ℤ) (fits : w < 2 ^ 16) (is : to_z w16 (of_z w16 z) ≡ to_z w16 w) where
  pub word_high : lt_z (to_z w16 (of_z w16 z)) (pos 0) ≡ true → (32768 ≤ w) × (nat_abs (to_z w16 (of_z w16 z)) ≡ 65536 - w)
  word_high e = by_order w 32768
      (λ l. absurd (omega (arith, ints, rw (is, to_z_pos w16 l) at e)))
      (λ l. (l, rw (is, le-ltb w 32768 l) (omega arith)))

  pub word_low : lt_z (to_z w16 (of_z w16 z)) (pos 0) ≡ false → w < 32768
  word_low e = by_order w 32768 (λ l. l) (λ l. absurd (omega (arith, ints, rw (is, le-ltb w 32768 l) at e)))
