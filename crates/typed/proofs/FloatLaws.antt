-- A text, and the float that it stands for, are read as one value.
use mathlib.Core.Path.{◌≡◌, refl, sym, ap, ◌∙◌}
use mathlib.Core.Bool.{Bool, true, false}
use mathlib.Core.List.{List, [], ◌∷◌, ◌++◌, append-nil}
use Prim.Native.Nat.{ℕ, zero, suc, ◌≤◌}
use native.Mathlib.Omega.{arith}
use borrow.Author.Tests.{le-ltb, ltb-false}
use lib.Dec.{T, ltb}
use lib.ListN.{length, take, drop, length-append, length-drop}
use lib.Seq.{drop_at, take_all}
use lib.Ieee.{Float, nan, inf, fin, binary32, to_bits}
use lib.Ieee.Scale as scale
use Rattle.base.specs.Bytes.{bytes_of}
use Rattle.base.specs.Choice.{pick}
use Rattle.base.proofs.ByteLaws.{length-bytes_of}
use Rattle.decimal.specs.Decimal.{text_value}
use Rattle.decimal.proofs.Laws.{text-finite, text-as-bytes}
use Rattle.refusal.specs.declared.Refusal.TheVariants.{BadSheet, LongText}
use Rattle.sheet.specs.declared.Value.{Value}
use Rattle.sheet.specs.declared.Value.TheVariants.{Float as FloatValue}
use Rattle.sheet.specs.Sheet.{fails, gets, malformed_if, is_finite, finite, text, value_of, value}
use Rattle.sheet.proofs.SheetLaws.{refused-got}
use Rattle.typed.specs.Floats.{in_float}

-- 9 does not come from a text
is-finite : (x : Float) → T (scale.finite x) → is_finite x ≡ true
unfolding is_finite
is-finite nan t = absurd t
is-finite (inf s) t = absurd t
is-finite (fin s m e) t = refl

pub text-is-finite : (t : List ℕ) → length t ≤ 12 → is_finite (text_value t) ≡ true
text-is-finite t few = is-finite (text_value t) (text-finite t few)

-- the float of a text is read as the text's value
float_read : (t : List ℕ) → length t ≤ 12 → (q : List ℕ) → value (1 ∷ bytes_of 4 (to_bits binary32 (text_value t)) ++ q) ≡ gets (FloatValue (text_value t)) q
unfolding value value_of finite
float_read t few q =
    let word = bytes_of 4 (to_bits binary32 (text_value t)) in
    let four = length-bytes_of 4 (to_bits binary32 (text_value t)) in
    let enough : ltb (length (word ++ q)) 4 ≡ false = le-ltb (length (word ++ q)) 4 (rw length-append (omega arith)) in
    rw (enough, text-as-bytes t q, text-is-finite t few, drop_at word q 4 four)

-- a text that is all of a value
text-alone : (n : ℕ) (t : List ℕ) (x : Value) → text (n ∷ t) ≡ gets x [] → (length t ≤ 12) × (FloatValue (text_value t) ≡ x)
unfolding text
text-alone n t x e = by (ltb 12 n) (ltb (length t) n) refl refl e
  where
    by : (a b : Bool) → ltb 12 n ≡ a → ltb (length t) n ≡ b
        → pick a (fails LongText) (malformed_if b (gets (FloatValue (text_value (take n t))) (drop n t))) ≡ gets x [] → (length t ≤ 12) × (FloatValue (text_value t) ≡ x)
    by true b l m h = absurd (refused-got LongText x [] h)
    by false true l m h = absurd (refused-got BadSheet x [] h)
    by false false l m h =
        let none : drop n t ≡ [] = cc in
        let same : FloatValue (text_value (take n t)) ≡ x = cc in
        let few : n ≤ 12 = ltb-false 12 n l in
        let all : length t ≤ n = omega (arith, sym (length-drop n t) ∙ ap length none) in
        (omega arith, ap (λ (z : List ℕ). FloatValue (text_value z)) (sym (take_all n t all)) ∙ same)

-- a value's bytes, and those with a text as its float, are read as the same value
pub in-float : (v : List ℕ) (x : Value) → ((q : List ℕ) → value (v ++ q) ≡ gets x q) → (q : List ℕ) → value (in_float v ++ q) ≡ gets x q
unfolding in_float text value value_of
in-float [] x a q = absurd (refused-got BadSheet x [] (a []))
in-float (zero ∷ v) x a q = a q
in-float (suc zero ∷ v) x a q = a q
in-float (suc (suc zero) ∷ v) x a q = a q
in-float (suc (suc (suc zero)) ∷ []) x a q = absurd (refused-got BadSheet x [] (a []))
in-float (suc (suc (suc zero)) ∷ (n ∷ t)) x a q =
    let k = text-alone n t x (ap (λ (z : List ℕ). text (n ∷ z)) (sym (append-nil t)) ∙ a []) in
    float_read t k.0 q ∙ ap (λ (z : Value). gets z q) k.1
in-float (suc (suc (suc (suc k))) ∷ v) x a q = absurd (refused-got BadSheet x [] (a []))
