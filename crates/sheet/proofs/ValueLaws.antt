-- Which bits are a finite float; values by their kind.
use Rattle.std.specs.Prelude.{Err, Ok}
use Rattle.std.proofs.Common.{◌≡◌, ℕ, zero, suc, ◌+◌, ◌-◌, ◌<◌, ◌≤◌, Bool, true, false, ltb, List, length, get_or, take, drop, sym, refl, ap, ◌∙◌, add-zero, arith, length-drop, drop_of_length-le, length-take-le, take_all, drop-drop, le-ltb, lt-ltb}
use native.Mathlib.Nat.{add-sub_cancel_left}
use lib.Ieee.{Float, nan, inf, fin, binary32, of_bits}
use Rattle.std.specs.Float.{float_is_finite}
use Rattle.std.specs.List.{slice_range}
use Rattle.base.specs.Bytes.{little_endian}
use Rattle.base.specs.Words.{signed32}
use Rattle.base.proofs.ByteLaws.{little_endian-drop}
use Rattle.decimal.specs.Decimal.{text_value}
use Rattle.refusal.specs.declared.Refusal.TheVariants.{BadSheet, NotFinite, LongText}
use Rattle.sheet.specs.Sheet.{Got, fails, gets, ◌and_then◌, malformed_if, is_finite, finite, text, value_of, value}
use Rattle.sheet.specs.Answers.{Said, refuses, reads, Agrees, word, WordIs, ValueIs}
use Rattle.sheet.specs.declared.Value.{Value}
use Rattle.sheet.specs.declared.Value.TheVariants.{Int, Float as FloatValue}
use Rattle.sheet.proofs.AnswerLaws.{from_byte, refused, read, same-reading, test-passes, test-fails}

-- ---- words, and the values that are one

after-test : {A B : Type 0} (t : Bool) (x : A) (r : List ℕ) (f : A → List ℕ → Got B) → (malformed_if t (gets x r) and_then f) ≡ malformed_if t (f x r)
unfolding ◌and_then◌
after-test true x r f = refl
after-test false x r f = refl

pub int-word : (bs : List ℕ) → value_of 0 bs ≡ (word bs and_then λ w r. gets (Int (signed32 w)) r)
unfolding value_of
int-word bs = sym (after-test (ltb (length bs) 4) _ _ _)

pub float-word : (bs : List ℕ) → value_of 1 bs ≡ (word bs and_then λ w r. finite (of_bits binary32 w) r)
unfolding value_of
float-word bs = sym (after-test (ltb (length bs) 4) _ _ _)

module _ (sheet : List ℕ) (at : ℕ) where
  pub word-cut : length sheet - at < 4 → WordIs sheet (Err BadSheet) (word (drop at sheet))
  word-cut s = test-passes _ (lt-ltb (length (drop at sheet)) 4 (rw length-drop s))

  pub word-read : (w : ℕ) → w ≡ little_endian 4 sheet at → 4 ≤ length sheet - at → WordIs sheet (Ok (record { value = w; next = at + 4 })) (word (drop at sheet))
  word-read w e s =
      let k : little_endian 4 (drop at sheet) 0 ≡ w = little_endian-drop 4 sheet at 0 ∙ rw add-zero (sym e) in
      test-fails
      (le-ltb (length (drop at sheet)) 4 (rw length-drop s))
      (read (rw k (ap (gets w) (drop-drop 4 at sheet))) (omega arith) tt)

-- finite as std has it, and as the definition has it
same-finite : (x : Float) → is_finite x ≡ float_is_finite x
unfolding is_finite float_is_finite
same-finite nan = refl
same-finite (inf s) = refl
same-finite (fin s m e) = refl

module _ {sheet : List ℕ} (x : Float) (w next : ℕ) (e : x ≡ of_bits binary32 w) where
  pub float-finite : true ≡ float_is_finite x → next ≤ length sheet
      → ValueIs sheet (Ok (record { value = FloatValue x; next = next })) (finite (of_bits binary32 w) (drop next sheet))
  unfolding finite
  float-finite f h = rw (← e) (let t = same-finite x ∙ sym f in read (rw t refl) h tt)

  pub float-infinite : false ≡ float_is_finite x → ValueIs sheet (Err NotFinite) (finite (of_bits binary32 w) (drop next sheet))
  unfolding finite
  float-infinite f = rw (← e) (let t = same-finite x ∙ sym f in refused (rw t refl))

-- ---- values

pub unknown : (k : ℕ) (bs : List ℕ) → 3 < k → value_of k bs ≡ fails BadSheet
unfolding value_of
unknown zero bs h = absurd (omega arith)
unknown (suc zero) bs h = absurd (omega arith)
unknown (suc (suc zero)) bs h = absurd (omega arith)
unknown (suc (suc (suc zero))) bs h = absurd (omega arith)
unknown (suc (suc (suc (suc k)))) bs h = refl

-- what is answered of a text, from the place of its length on
module _ (sheet : List ℕ) (at : ℕ) where
  abbrev pub TextIs : Said Value → Type 0
  TextIs says = Agrees sheet (λ v. v) (λ v. Unit) says (text (drop at sheet))

  pub text-end : length sheet ≤ at → TextIs (refuses BadSheet)
  unfolding text
  text-end h = refused (ap text (drop_of_length-le sheet h))

  -- its length n, and what follows that
  module _ (n : ℕ) (h : (at < length sheet) × ((d : ℕ) → n ≡ get_or sheet at d)) where
    abbrev behind : List ℕ
    behind = drop (at + 1) sheet

    pub text-long : 12 < n → TextIs (refuses LongText)
    unfolding text
    text-long l = refused (ap text (from_byte sheet at n h) ∙ rw (lt-ltb 12 n l))

    module _ (l : n ≤ 12) where
      short : text (drop at sheet) ≡ malformed_if (ltb (length behind) n) (gets (FloatValue (text_value (take n behind))) (drop n behind))
      unfolding text
      short = ap text (from_byte sheet at n h) ∙ rw (le-ltb 12 n l)

      pub text-cut : length sheet < at + 1 + n → TextIs (refuses BadSheet)
      text-cut s = same-reading short (test-passes _ (lt-ltb (length behind) n (rw length-drop (omega arith))))

      pub text-read : (x : Float) (m : ℕ) (t : List ℕ) → x ≡ text_value (take 12 t) → m ≡ n → t ≡ slice_range sheet (at + 1) (at + 1 + m) → at + 1 + m ≤ length sheet
          → TextIs (reads (FloatValue x) (at + 1 + m))
      text-read x m t e i p s =
          let part = add-sub_cancel_left (at + 1) n in
          let enough : n ≤ length behind = rw length-drop (omega arith) in
          let long = length-take-le n behind enough in
          let all = take_all 12 (take n behind) (omega arith) in
          rw (e, p, i)
          (same-reading short
          (test-fails (le-ltb (length behind) n enough)
          (read (rw (part, all) (ap (gets (FloatValue (text_value (take n behind)))) (drop-drop n (at + 1) sheet))) (omega arith) tt)))

-- what is answered at a place
module _ (sheet : List ℕ) (at : ℕ) where
  pub value-end : length sheet ≤ at → Agrees sheet (λ v. v) (λ v. Unit) (refuses BadSheet) (value (drop at sheet))
  unfolding value
  value-end h = refused (ap value (drop_of_length-le sheet h))

  -- by the kind, and what follows it
  pub by_kind : (b : ℕ) → (at < length sheet) × ((d : ℕ) → b ≡ get_or sheet at d) → (k : ℕ) → b ≡ k → value (drop at sheet) ≡ value_of k (drop (at + 1) sheet)
  unfolding value
  by_kind b h k e = ap value (from_byte sheet at b h) ∙ ap (λ (n : ℕ). value_of n (drop (at + 1) sheet)) e
