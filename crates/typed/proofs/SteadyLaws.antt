-- What a reading reads does not depend on what follows it.
use mathlib.Core.Path.{◌≡◌, refl, sym, ap, ◌∙◌}
use mathlib.Core.Bool.{Bool, true, false, ◌&&◌, ◌||◌, not}
use mathlib.Core.List.{List, [], ◌∷◌, ◌++◌, append_assoc}
use Prim.Native.Nat.{ℕ, zero, suc, ◌+◌, ◌-◌, ◌*◌}
use native.Mathlib.Omega.{arith}
use borrow.Author.Tests.{le-ltb, ltb-false}
use lib.Dec.{ltb, eqb}
use lib.ListN.{length, take, drop, length-append, take-append-drop}
use lib.Seq.{length-take-le, take_at, drop_at}
use lib.Ieee.{Float, binary32, of_bits}
use Rattle.base.specs.Bytes.{little_endian}
use Rattle.base.specs.Choice.{pick}
use Rattle.base.specs.Words.{signed32}
use Rattle.base.proofs.ByteLaws.{little_endian-part}
use Rattle.decimal.specs.Decimal.{text_value}
use Rattle.refusal.specs.declared.Refusal.TheVariants.{BadSheet, NotFinite, LongText}
use Rattle.sheet.specs.declared.Value.{Value}
use Rattle.sheet.specs.declared.Value.TheVariants.{Int, Float as FloatValue, Absent}
use Rattle.sheet.specs.Sheet.{Got, fails, gets, ◌and_then◌, malformed_if, groups, number, count, printable, name, is_finite, finite, text, value_of, value}
use Rattle.sheet.proofs.NumberLaws.{turn}
use Rattle.sheet.proofs.SheetLaws.{refused-got, came}

-- the bytes of what was read, and that they are read so before any others
pub record Read {A : Type 0} (one : List ℕ → Got A) (x : A) (bs r : List ℕ) : Type 0 where
  pub bytes : List ℕ
  pub whole : bs ≡ bytes ++ r
  pub alone : (q : List ℕ) → one (bytes ++ q) ≡ gets x q

abbrev pub Steady : {A : Type 0} → (List ℕ → Got A) → Type 0
Steady {A} one = (bs : List ℕ) (x : A) (r : List ℕ) → one bs ≡ gets x r → Read one x bs r

pub steady_then : {A B : Type 0} (g : List ℕ → Got A) (f : A → List ℕ → Got B) → Steady g → ((x : A) → Steady (f x)) → Steady (λ bs. g bs and_then f)
unfolding ◌and_then◌
steady_then {A} g f s t bs y r e =
    let a = came (g bs) f y r e in
    let p = s bs a.value a.rest a.is in
    let q = t a.value a.rest y r a.after in
    record {
      bytes = p.bytes ++ q.bytes;
      whole = p.whole ∙ ap (λ (l : List ℕ). p.bytes ++ l) q.whole ∙ sym (append_assoc p.bytes q.bytes r);
      alone = λ z.
          ap (λ (l : List ℕ). g l and_then f) (append_assoc p.bytes q.bytes z)
          ∙ ap (λ (h : Got A). h and_then f) (p.alone (q.bytes ++ z))
          ∙ q.alone z;
    }

-- what a test lets pass
record Passed {A : Type 0} (t : Bool) (a b : A) (r s : List ℕ) : Type 0 where
  passes : t ≡ false
  read : a ≡ b
  rest : r ≡ s

passed : {A : Type 0} (t : Bool) (a b : A) (r s : List ℕ) → malformed_if t (gets a r) ≡ gets b s → Passed t a b r s
passed true a b r s e = absurd (refused-got BadSheet b s e)
passed false a b r s e = record { passes = refl; read = cc; rest = cc }

-- a test that reads nothing
steady-if : {A : Type 0} (t : Bool) (a : A) → Steady (λ bs. malformed_if t (gets a bs))
steady-if t a bs x r e =
    let p = passed t a x bs r e in
    let f = p.passes in
    let g = p.read in
    record { bytes = []; whole = p.rest; alone = λ q. rw (f, g) }

-- ---- numbers

groups-steady : (k : ℕ) (first : Bool) → Steady (groups k first)
unfolding groups ◌and_then◌
groups-steady zero first bs x r e = absurd (refused-got BadSheet x r e)
groups-steady (suc k) first [] x r e = absurd (refused-got BadSheet x r e)
groups-steady (suc k) first (b ∷ bs) x r e = by (ltb b 128) refl e (groups-steady k false)
  where
    by : (t : Bool) → ltb b 128 ≡ t → turn t k first b bs ≡ gets x r → Steady (groups k false) → Read (groups (suc k) first) x (b ∷ bs) r
    by true l h s =
        let p = passed (not first && eqb b 0) b x bs r h in
        let f = p.passes in
        let g = p.read in
        record { bytes = b ∷ []; whole = ap (λ (z : List ℕ). b ∷ z) p.rest; alone = λ q. ap (λ (t : Bool). turn t k first b q) l ∙ ap (λ (t : Bool). malformed_if t (gets b q)) f ∙ ap (λ (z : ℕ). gets z q) g }
    by false l h s =
        let a = came (groups k false bs) _ x r h in
        let i = s bs a.value a.rest a.is in
        let w = a.after in
        let same : b - 128 + 128 * a.value ≡ x = cc in
        let rest : a.rest ≡ r = cc in
        record {
          bytes = b ∷ i.bytes;
          whole = ap (λ (z : List ℕ). b ∷ z) (i.whole ∙ ap (λ (z : List ℕ). i.bytes ++ z) rest);
          alone = λ q.
              ap (λ (t : Bool). turn t k first b (i.bytes ++ q)) l
              ∙ ap (λ (g : Got ℕ). g and_then (λ m z. gets (b - 128 + 128 * m) z)) (i.alone q)
              ∙ ap (λ (z : ℕ). gets z q) same;
        }

pub number-steady : Steady number
number-steady = groups-steady 5 true

pub count-steady : Steady count
unfolding count
count-steady = steady_then number (λ n r. malformed_if (ltb 4096 n) (gets n r)) number-steady (λ n. steady-if (ltb 4096 n) n)

-- ---- so many bytes

takes : ℕ → List ℕ → Got (List ℕ)
takes n bs = malformed_if (ltb (length bs) n) (gets (take n bs) (drop n bs))

takes-steady : (n : ℕ) → Steady (takes n)
unfolding takes
takes-steady n bs x r e =
    let p = passed (ltb (length bs) n) (take n bs) x (drop n bs) r e in
    let long = length-take-le n bs (ltb-false (length bs) n p.passes) in
    let g = p.read in
    record {
      bytes = take n bs;
      whole = sym (take-append-drop n bs) ∙ ap (λ (z : List ℕ). take n bs ++ z) p.rest;
      alone = λ q.
          let enough : ltb (length (take n bs ++ q)) n ≡ false = le-ltb _ n (rw length-append (omega arith)) in
          rw (enough, take_at (take n bs) q n long, drop_at (take n bs) q n long, g);
    }

-- and what is made of them
module _ {A : Type 0} (one : List ℕ → Got A) (n : ℕ) (make : List ℕ → List ℕ → Got A) where
  pub steady-part : ((bs : List ℕ) → one bs ≡ malformed_if (ltb (length bs) n) (make (take n bs) (drop n bs))) → ((l : List ℕ) → Steady (make l)) → Steady one
  unfolding takes ◌and_then◌
  steady-part is s bs x r e =
      let p = steady_then (takes n) make (takes-steady n) s bs x r (sym (parts bs) ∙ e) in
      record { bytes = p.bytes; whole = p.whole; alone = λ q. parts (p.bytes ++ q) ∙ p.alone q }
    where
      by : (t : Bool) (bs : List ℕ) → malformed_if t (make (take n bs) (drop n bs)) ≡ (malformed_if t (gets (take n bs) (drop n bs)) and_then make)
      by true bs = refl
      by false bs = refl

      parts : (bs : List ℕ) → one bs ≡ (takes n bs and_then make)
      parts bs = is bs ∙ by (ltb (length bs) n) bs

pub name-steady : Steady name
unfolding name
name-steady = steady_then number _ number-steady (λ n. steady-part _ n (λ l r. malformed_if (ltb 32 n || not (printable l)) (gets l r))
    (λ bs. tests (ltb 32 n) (ltb (length bs) n) (not (printable (take n bs))) _) (λ l. steady-if (ltb 32 n || not (printable l)) l))
  where
    tests : (a b c : Bool) (g : Got (List ℕ)) → malformed_if (a || (b || c)) g ≡ malformed_if b (malformed_if (a || c) g)
    tests true true c g = refl
    tests true false c g = refl
    tests false true c g = refl
    tests false false c g = refl

-- ---- values

steady-gets : {A : Type 0} (a : A) → Steady (λ bs. gets a bs)
steady-gets a bs x r e = let g : a ≡ x = cc in record { bytes = []; whole = cc; alone = λ q. rw g }

finite-steady : (v : Float) → Steady (finite v)
unfolding finite
finite-steady v = by (is_finite v)
  where
    by : (t : Bool) → Steady (λ bs. pick t (gets (FloatValue v) bs) (fails NotFinite))
    by true = steady-gets (FloatValue v)
    by false = λ bs x r e. absurd (refused-got NotFinite x r e)

-- a word is that of its four bytes
word-front : (bs : List ℕ) → little_endian 4 bs 0 ≡ little_endian 4 (take 4 bs) 0
word-front bs = sym (little_endian-part 4 bs 0 4 0 (omega arith))

text-steady : Steady text
unfolding text
text-steady [] x r e = absurd (refused-got BadSheet x r e)
text-steady (n ∷ bs) x r e = by (ltb 12 n) refl e
  where
    short : List ℕ → Got Value
    short l = malformed_if (ltb (length l) n) (gets (FloatValue (text_value (take n l))) (drop n l))

    by : (t : Bool) → ltb 12 n ≡ t → pick t (fails LongText) (short bs) ≡ gets x r → Read text x (n ∷ bs) r
    by true l h = absurd (refused-got LongText x r h)
    by false l h =
        let p = steady-part short n (λ l q. gets (FloatValue (text_value l)) q) (λ z. refl) (λ z. steady-gets (FloatValue (text_value z))) bs x r h in
        record { bytes = n ∷ p.bytes; whole = ap (λ (z : List ℕ). n ∷ z) p.whole; alone = λ q. rw l (p.alone q) }

kind-steady : (k : ℕ) → Steady (value_of k)
unfolding value_of
kind-steady zero =
    steady-part _ 4 (λ l q. gets (Int (signed32 (little_endian 4 l 0))) q)
    (λ bs. ap (λ (w : ℕ). malformed_if (ltb (length bs) 4) (gets (Int (signed32 w)) (drop 4 bs))) (word-front bs))
    (λ l. steady-gets (Int (signed32 (little_endian 4 l 0))))
kind-steady (suc zero) =
    steady-part _ 4 (λ l q. finite (of_bits binary32 (little_endian 4 l 0)) q)
    (λ bs. ap (λ (w : ℕ). malformed_if (ltb (length bs) 4) (finite (of_bits binary32 w) (drop 4 bs))) (word-front bs))
    (λ l. finite-steady (of_bits binary32 (little_endian 4 l 0)))
kind-steady (suc (suc zero)) = steady-gets Absent
kind-steady (suc (suc (suc zero))) = text-steady
kind-steady (suc (suc (suc (suc k)))) = λ bs x r e. absurd (refused-got BadSheet x r e)

pub value-steady : Steady value
unfolding value
value-steady [] x r e = absurd (refused-got BadSheet x r e)
value-steady (k ∷ bs) x r e =
    let p = kind-steady k bs x r e in
    record { bytes = k ∷ p.bytes; whole = ap (λ (z : List ℕ). k ∷ z) p.whole; alone = p.alone }
