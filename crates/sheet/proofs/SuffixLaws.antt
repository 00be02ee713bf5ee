-- What is left after a reading is the end of what was there.
use Rattle.std.proofs.Common.{◌≡◌, ℕ, zero, suc, ◌+◌, ◌-◌, ◌*◌, ◌≤◌, Bool, true, false, not, ◌&&◌, ◌||◌, eqb, ltb, List, [], ◌∷◌, length, take, drop, sym, refl, ap, ◌∙◌, subst, arith, length-drop, drop-drop, ltb-false}
use lib.Ieee.{Float}
use Rattle.base.specs.Choice.{pick}
use Rattle.decimal.specs.Decimal.{text_value}
use Rattle.refusal.specs.declared.Refusal.{Refusal}
use Rattle.refusal.specs.declared.Refusal.TheVariants.{NotFinite, LongText}
use Rattle.sheet.specs.Sheet.{Got, fails, gets, ◌and_then◌, malformed_if, groups, number, count, printable, name, is_finite, finite, text, value_of, value, segment, repeated}
use Rattle.sheet.specs.declared.Value.TheVariants.{Float as FloatValue}

pub record Suffix (r bs : List ℕ) : Type 0 where
  pub by : ℕ
  pub is : r ≡ drop by bs
  pub within : by ≤ length bs

pub all : (bs : List ℕ) → Suffix bs bs
all bs = record { by = 0; is = refl; within = omega arith }

cut : (n : ℕ) (bs : List ℕ) → n ≤ length bs → Suffix (drop n bs) bs
cut n bs h = record { by = n; is = refl; within = h }

pub trans : {q r bs : List ℕ} → Suffix q r → Suffix r bs → Suffix q bs
trans {q} {r} {bs} a b =
    let l : a.by ≤ length (drop b.by bs) = subst (λ (x : List ℕ). a.by ≤ length x) b.is a.within in
    let w = b.within in
    record {
      by = b.by + a.by;
      is = a.is ∙ ap (drop a.by) b.is ∙ drop-drop a.by b.by bs;
      within = omega (arith, rw length-drop at l);
    }

-- where a suffix begins
pub suffix-place : {r bs : List ℕ} → Suffix r bs → drop (length bs - length r) bs ≡ r
suffix-place {r} {bs} a =
    let l : length r ≡ length bs - a.by = ap length a.is ∙ length-drop a.by bs in
    let w = a.within in
    let e : length bs - length r ≡ a.by = omega arith in
    ap (λ (n : ℕ). drop n bs) e ∙ sym a.is

pub data Leaves {A : Type 0} (bs : List ℕ) : Got A → Type 0 where
  nothing : {c : Refusal} → Leaves bs (fails c)
  end : {x : A} {r : List ℕ} → Suffix r bs → Leaves bs (gets x r)

leaves-trans : {A : Type 0} {r bs : List ℕ} {g : Got A} → Suffix r bs → Leaves r g → Leaves bs g
leaves-trans s nothing = nothing
leaves-trans s (end q) = end (trans q s)

leaves-then : {A B : Type 0} {bs : List ℕ} {g : Got A} (f : A → List ℕ → Got B) → Leaves bs g → ((x : A) (r : List ℕ) → Leaves r (f x r)) → Leaves bs (g and_then f)
unfolding ◌and_then◌
leaves-then f nothing m = nothing
leaves-then f (end {x} {r} s) m = leaves-trans s (m x r)

-- 8 where a test passes
leaves-if : {A : Type 0} {bs : List ℕ} (t : Bool) {g : Got A} → (t ≡ false → Leaves bs g) → Leaves bs (malformed_if t g)
leaves-if true l = nothing
leaves-if false l = l refl

one : (b : ℕ) (bs : List ℕ) → Suffix bs (b ∷ bs)
one b bs = cut 1 (b ∷ bs) (omega arith)

groups-leaves : (k : ℕ) (first : Bool) (bs : List ℕ) → Leaves bs (groups k first bs)
unfolding groups
groups-leaves zero first bs = nothing
groups-leaves (suc k) first [] = nothing
groups-leaves (suc k) first (b ∷ bs) = by (ltb b 128) (groups-leaves k false bs)
  where
    by : (t : Bool) → Leaves bs (groups k false bs)
        → Leaves {A = ℕ} (b ∷ bs) (elim t [ true ↦ malformed_if (not first && eqb b 0) (gets b bs) | false ↦ groups k false bs and_then (λ m r. gets (b - 128 + 128 * m) r) ])
    by true l = leaves-if (not first && eqb b 0) (λ e. end (one b bs))
    by false l = leaves-then (λ m r. gets (b - 128 + 128 * m) r) (leaves-trans (one b bs) l) (λ m r. end (all r))

number-leaves : (bs : List ℕ) → Leaves bs (number bs)
number-leaves bs = groups-leaves 5 true bs

pub count-leaves : (bs : List ℕ) → Leaves bs (count bs)
unfolding count
count-leaves bs = leaves-then _ (number-leaves bs) (λ n r. leaves-if (ltb 4096 n) (λ e. end (all r)))

first-false : (t u : Bool) → (t || u) ≡ false → t ≡ false
first-false true u e = e
first-false false u e = refl

name-leaves : (bs : List ℕ) → Leaves bs (name bs)
unfolding name
name-leaves bs = leaves-then _ (number-leaves bs) (λ n r. leaves-if _ (λ e. end (cut n r (short (ltb 32 n) (length r) n (not (printable (take n r))) e))))
  where
    short : (t : Bool) (l n : ℕ) (u : Bool) → (t || (ltb l n || u)) ≡ false → n ≤ l
    short true l n u e = let z : ◌≡◌ {A = ℕ} 0 1 = cc in absurd (omega arith)
    short false l n u e = ltb-false l n (first-false (ltb l n) u e)

four : (r : List ℕ) → ltb (length r) 4 ≡ false → Suffix (drop 4 r) r
four r e = cut 4 r (ltb-false (length r) 4 e)

finite-leaves : (x : Float) {r bs : List ℕ} → Suffix r bs → Leaves bs (finite x r)
unfolding finite
finite-leaves x {r} {bs} s = by (is_finite x)
  where
    by : (t : Bool) → Leaves bs (pick t (gets (FloatValue x) r) (fails NotFinite))
    by true = end s
    by false = nothing

text-leaves : (bs : List ℕ) → Leaves bs (text bs)
unfolding text
text-leaves [] = nothing
text-leaves (n ∷ bs) = by (ltb 12 n)
  where
    by : (t : Bool) → Leaves (n ∷ bs) (pick t (fails LongText) (malformed_if (ltb (length bs) n) (gets (FloatValue (text_value (take n bs))) (drop n bs))))
    by true = nothing
    by false = leaves-if (ltb (length bs) n) (λ e. end (trans (cut n bs (ltb-false (length bs) n e)) (one n bs)))

kind-leaves : (k : ℕ) (r : List ℕ) → Leaves r (value_of k r)
unfolding value_of
kind-leaves zero r = leaves-if (ltb (length r) 4) (λ e. end (four r e))
kind-leaves (suc zero) r = leaves-if (ltb (length r) 4) (λ e. finite-leaves _ (four r e))
kind-leaves (suc (suc zero)) r = end (all r)
kind-leaves (suc (suc (suc zero))) r = text-leaves r
kind-leaves (suc (suc (suc (suc k)))) r = nothing

value-leaves : (bs : List ℕ) → Leaves bs (value bs)
unfolding value
value-leaves [] = nothing
value-leaves (k ∷ bs) = leaves-trans (one k bs) (kind-leaves k bs)

pub segment-leaves : (n : ℕ) (bs : List ℕ) → Leaves bs (segment n bs)
unfolding segment
segment-leaves n bs =
    leaves-then _ (name-leaves bs) (λ nm r.
    leaves-then _ (value-leaves r) (λ v r₁.
    leaves-then _ (number-leaves r₁) (λ f r₂. leaves-if (ltb n f) (λ e. end (all r₂)))))

pub repeated-leaves : {A : Type 0} (one : List ℕ → Got A) → ((bs : List ℕ) → Leaves bs (one bs)) → (n : ℕ) (bs : List ℕ) → Leaves bs (repeated one n bs)
unfolding repeated
repeated-leaves one l zero bs = end (all bs)
repeated-leaves one l (suc n) bs = leaves-then _ (l bs) (λ x r. leaves-then _ (repeated-leaves one l n r) (λ xs r₁. end (all r₁)))
