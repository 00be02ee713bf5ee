-- Laws of `text_value` for callers: the value is an f32, a finite one, so a sheet can carry its word in the text's place.
use mathlib.Core.Path.{◌≡◌, refl, sym, ap, ◌∙◌, subst}
use mathlib.Core.Bool.{Bool, true, false, ◌||◌}
use mathlib.Core.List.{List, [], ◌∷◌, ◌++◌}
use Prim.Native.Nat.{ℕ, suc, ◌+◌, ◌-◌, ◌*◌, ◌/◌, ◌%◌, ◌^◌, ◌≤◌, ◌<◌, compare}
use native.Mathlib.Nat.{le_refl, le_trans, lt_of_le_of_lt, lt_of_lt_of_le, zero-add, add-zero, add-suc, suc-add, mod-eq_of_lt, div-le_self, div-div-eq-div-mul, mul-le-mul, mul-lt-mul_of_pos_right, pow-suc}
use native.Mathlib.Omega.{arith}
use borrow.Author.Tests.{leb-true}
use lib.Dec.{T, leb, lit<, lit≤}
use lib.ListN.{length, drop, length-drop}
use lib.Pow.{pow_pos, pow_mono}
use lib.Ieee.{Float, nan, inf, fin, binary32, size, round, fits, of_bits, to_bits}
use lib.Ieee.Bits.{of_bits-to_bits, to_bits-lt}
use lib.Ieee.Digits.{size-le}
use lib.Ieee.Exact.{HasValue, units_val}
use lib.Ieee.Fits.{nearest-le, kept-lt, round_is, round-fits}
use lib.Ieee.Nearest.{closest}
use lib.Ieee.Scale.{finite}
use Rattle.base.specs.Bytes.{little_endian, bytes_of}
use Rattle.base.specs.Choice.{pick, within}
use Rattle.base.proofs.ListLaws.{and_right}
use Rattle.base.proofs.ByteLaws.{little_endian-front}
use Rattle.decimal.specs.Decimal.{begins, digits, after_sign, after_point, whole, part, number, numerator, denominator, negative, text_value}
use Rattle.decimal.proofs.DigitLaws.{number_append, ten-mono}

-- ---- how many digits there are, and how large their number
digit-top : (c : ℕ) → within 48 57 c ≡ true → c ≤ 57
digit-top c e = leb-true c 57 (and_right (leb 48 c) (leb c 57) e)

module _ (c : ℕ) (ds : List ℕ) where
  one-short : (b : Bool) (m : ℕ) → length ds ≤ m → length (pick b ((c - 48) ∷ ds) []) ≤ suc m
  one-short true m h = omega arith
  one-short false m h = omega arith

  one_below : (b : Bool) (n i : ℕ) → within 48 57 c ≡ b → n < 10 ^ i → (n * 10 + (c - 48) < 10 ^ suc i → number (n * 10 + (c - 48)) ds < 10 ^ (suc i + length ds))
      → number n (pick b ((c - 48) ∷ ds) []) < 10 ^ (i + length (pick b ((c - 48) ∷ ds) []))
  unfolding number
  one_below true n i e h more = let l = digit-top c e in rw (add-suc i (length ds), ← suc-add i (length ds)) (more (rw (pow-suc 10 i) (omega arith)))
  one_below false n i e h more = rw (add-zero i) h

digits-short : (text : List ℕ) → length (digits text) ≤ length text
unfolding digits
digits-short [] = omega arith
digits-short (c ∷ text) = one-short c (digits text) (within 48 57 c) (length text) (digits-short text)

digits-below : (text : List ℕ) (n i : ℕ) → n < 10 ^ i → number n (digits text) < 10 ^ (i + length (digits text))
unfolding digits number
digits-below [] n i h = rw (add-zero i) h
digits-below (c ∷ text) n i h = one_below c (digits text) (within 48 57 c) n i refl h (λ l. digits-below text (n * 10 + (c - 48)) (suc i) l)

sign-short : (text : List ℕ) → length (after_sign text) ≤ length text
unfolding after_sign
sign-short text = go (begins 43 text || begins 45 text)
  where
    go : (b : Bool) → length (pick b (drop 1 text) text) ≤ length text
    go true = rw (length-drop 1 text) (omega arith)
    go false = le_refl (length text)

module _ (text : List ℕ) where
  point-short : length (after_point text) ≤ length text
  unfolding after_point
  point-short = go (begins 46 text)
    where
      go : (b : Bool) → length (pick b (digits (drop 1 text)) []) ≤ length text
      go true = omega (arith, digits-short (drop 1 text), length-drop 1 text)
      go false = omega arith

  point-below : (n i : ℕ) → n < 10 ^ i → number n (after_point text) < 10 ^ (i + length (after_point text))
  unfolding after_point number
  point-below n i h = go (begins 46 text)
    where
      go : (b : Bool) → number n (pick b (digits (drop 1 text)) []) < 10 ^ (i + length (pick b (digits (drop 1 text)) []))
      go true = digits-below (drop 1 text) n i h
      go false = rw (add-zero i) h

pub numerator-small : (text : List ℕ) → length text ≤ 12 → numerator text < 2 ^ 40
unfolding numerator whole part
numerator-small text few =
    let rest = after_sign text in
    let a = length (digits rest) in
    let b = length (after_point (drop a rest)) in
    let short : a + b ≤ 12 = omega (arith, digits-short rest, point-short (drop a rest), length-drop a rest, sign-short text) in
    rw number_append
    (lt_of_lt_of_le (point-below (drop a rest) (number 0 (digits rest)) a (rw (zero-add a) at (digits-below rest 0 0 (lit< tt)))) (le_trans (ten-mono {j = 12} short) (lit≤ tt)))

-- ---- a fraction below 2 ^ 40 rounds to a finite value
has-finite : (v : Float) (s : Bool) (a c : ℕ) → HasValue v s a c → T (finite v)
has-finite nan s a c h = absurd h
has-finite (inf t) s a c h = absurd h
has-finite (fin t m e) s a c h = tt

small-finite : (s : Bool) (num den : ℕ) → num < 2 ^ 40 → T (finite (round binary32 s num den))
small-finite s num den h =
    let n = num * 2 ^ 149 in
    let w = n / den in
    let k = size w - 24 in
    let r = closest n (den * 2 ^ k) in
    let most : r ≤ 2 ^ 24 = le_trans (nearest-le (n / (den * 2 ^ k)) (compare (n % (den * 2 ^ k) * 2) (den * 2 ^ k))) (rw (← div-div-eq-div-mul n den (2 ^ k)) (kept-lt 24 w)) in
    let long : size w ≤ 189 = size-le w 189 (lt_of_le_of_lt (div-le_self n den) (mul-lt-mul_of_pos_right h (pow_pos 149))) in
    let few : k ≤ 165 = omega arith in
    let under : r * 2 ^ k < 2 ^ 277 = lt_of_le_of_lt (mul-le-mul most (pow_mono few)) (lit< tt) in
    has-finite (round binary32 s num den) s (r * 2 ^ k) (2 ^ 149) (subst (λ (v : Float). HasValue v s (r * 2 ^ k) (2 ^ 149)) (sym (round_is binary32 s num den)) (units_val binary32 s r k under))

-- ---- the value of a text
module _ (text : List ℕ) where
  pub text-fits : T (fits binary32 (text_value text))
  unfolding text_value
  text-fits = round-fits binary32 (negative text) (numerator text) (denominator text)

  pub text-finite : length text ≤ 12 → T (finite (text_value text))
  unfolding text_value
  text-finite few = small-finite (negative text) (numerator text) (denominator text) (numerator-small text few)

  -- its word is a u32, and stands for it
  pub text-word : to_bits binary32 (text_value text) < 2 ^ 32
  text-word = to_bits-lt binary32 (text_value text) text-fits

  pub text-back : of_bits binary32 (to_bits binary32 (text_value text)) ≡ text_value text
  text-back = of_bits-to_bits binary32 (text_value text) text-fits

  -- what a sheet's reader makes of the four bytes of that word
  pub text-as-bytes : (rest : List ℕ) → of_bits binary32 (little_endian 4 (bytes_of 4 (to_bits binary32 (text_value text)) ++ rest) 0) ≡ text_value text
  text-as-bytes rest = ap (of_bits binary32) (little_endian-front 4 (to_bits binary32 (text_value text)) rest ∙ mod-eq_of_lt text-word) ∙ text-back
