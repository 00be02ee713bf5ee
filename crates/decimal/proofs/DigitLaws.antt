-- Laws of the digits of a text.
use mathlib.Core.Path.{◌≡◌, refl, sym, ap, ◌∙◌}
use mathlib.Core.Bool.{true, false}
use mathlib.Core.List.{List, [], ◌∷◌, ◌++◌}
use Prim.Native.Nat.{ℕ, suc, ◌+◌, ◌-◌, ◌*◌, ◌^◌, ◌≤◌, ◌<◌}
use native.Mathlib.Nat.{le_refl, le_trans, le_of_eq, lt_of_lt_of_le, add-zero, pow-suc, pow-le-pow_right}
use native.Mathlib.Numerals.{add-one}
use native.Mathlib.Omega.{arith}
use borrow.Author.Tests.{le-leb, lt-leb}
use lib.Dec.{lit<}
use lib.ListN.{length, drop, get_or, drop_of_length-le}
use lib.Seq.{drop-cons}
use Rattle.std.specs.Prelude.{Some}
use Rattle.base.specs.Choice.{within}
use Rattle.base.proofs.CaseLaws.{by_order}
use Rattle.decimal.specs.Decimal.{digits, number}
use Rattle.decimal.specs.Reading.{DigitAt, DigitsRead}

-- ---- the digit at a place: none past the end, nor where another byte stands
module _ (text : List ℕ) (at : ℕ) where
  pub past_end : length text ≤ at → digits (drop at text) ≡ []
  unfolding digits
  past_end h = rw (drop_of_length-le text h)

  module _ (h : at < length text) where
    pub other-byte : within 48 57 (get_or text at 0) ≡ false → digits (drop at text) ≡ []
    unfolding digits
    other-byte e = rw (drop-cons text at 0 h, e)

    pub digit-byte : within 48 57 (get_or text at 0) ≡ true → digits (drop at text) ≡ (get_or text at 0 - 48) ∷ digits (drop (suc at) text)
    unfolding digits
    digit-byte e = rw (drop-cons text at 0 h, e)

    -- the same, by the order of the byte
    pub digit-in : 48 ≤ get_or text at 0 → get_or text at 0 ≤ 57 → digits (drop at text) ≡ (get_or text at 0 - 48) ∷ digits (drop (suc at) text)
    digit-in l r = digit-byte (rw (le-leb 48 (get_or text at 0) l, le-leb (get_or text at 0) 57 r))

    pub other-out : (48 ≤ get_or text at 0 → get_or text at 0 ≤ 57 → ⊥) → digits (drop at text) ≡ []
    other-out n =
        let b = get_or text at 0 in
        other-byte (by_order b 48 (λ l. rw (lt-leb 48 b l)) (λ l. by_order 57 b (λ r. rw (le-leb 48 b l, lt-leb b 57 r)) (λ r. absurd (n l r))))

-- ---- numbers of digits
pub number_append : (n : ℕ) (ds es : List ℕ) → number n (ds ++ es) ≡ number (number n ds) es
unfolding number
number_append n [] es = refl
number_append n (d ∷ ds) es = number_append (n * 10 + d) ds es

-- ---- powers of ten
ten-more : (i : ℕ) → 10 ^ (i + 1) ≡ 10 ^ i * 10
ten-more i = ap (λ (z : ℕ). 10 ^ z) (add-one i) ∙ pow-suc 10 i

pub ten-mono : {i j : ℕ} → i ≤ j → 10 ^ i ≤ 10 ^ j
ten-mono h = pow-le-pow_right (lit< tt) h

-- ---- the loop of `read_digits`: up to the place i the digits from `at` on gave n
pub record Going (text : List ℕ) (at before i n p : ℕ) : Type 0 where
  pub from : at ≤ i
  pub inside : i ≤ length text
  pub is : number n (digits (drop i text)) ≡ number before (digits (drop at text))
  pub count : i + length (digits (drop i text)) ≡ at + length (digits (drop at text))
  pub small : n < 10 ^ i
  pub tens : p ≡ 10 ^ (i - at)

module _ (text : List ℕ) (at before : ℕ) where
  pub going : at ≤ length text → before < 10 ^ at → Going text at before at before 1
  going h s = let z : at - at ≡ 0 = omega arith in record { from = le_refl at; inside = h; is = refl; count = refl; small = s; tens = rw z }

  module _ (i n p : ℕ) (g : Going text at before i n p) where
    -- one digit more
    module _ (d : ℕ) (k : DigitAt text i (Some d)) where
      pub more-small : n * 10 + d < 10 ^ (i + 1)
      more-small = let l = k.1 in rw (ten-more i) (omega (arith, g.small))

      pub goes_on : Going text at before (i + 1) (n * 10 + d) (p * 10)
      unfolding number
      goes_on =
          let cons = k.2 in
          let f = g.from in
          let minus : i + 1 - at ≡ (i - at) + 1 = omega arith in
          record {
            from = omega arith;
            inside = rw (add-one i) k.0;
            is = rw (add-one i) (sym (ap (number n) cons) ∙ g.is);
            count = rw (add-one i) (add-suc' i (length (digits (drop (suc i) text))) ∙ sym (ap (λ (l : List ℕ). i + length l) cons) ∙ g.count);
            small = more-small;
            tens = rw minus (ap (λ (z : ℕ). z * 10) g.tens ∙ sym (ten-more (i - at)));
          }
        where
          add-suc' : (a b : ℕ) → suc a + b ≡ a + suc b
          add-suc' a b = omega arith

      -- no product or sum is too large for a text of 12 bytes
      module _ (few : length text ≤ 12) where
        pub number_fits : n * 10 + d < 10 ^ 12
        number_fits = lt_of_lt_of_le more-small (ten-mono {j = 12} (rw (add-one i) (le_trans k.0 few)))

        pub power-fits : p * 10 ≤ 10 ^ 12
        power-fits = let f = g.from in le_trans (le_of_eq (ap (λ (z : ℕ). z * 10) g.tens ∙ sym (ten-more (i - at)))) (ten-mono {j = 12} (let l = k.0 in omega arith))

    -- no digit more
    pub done : digits (drop i text) ≡ [] → DigitsRead text at before (record { end = i; number = n; power = p })
    unfolding number
    done none =
        let f = g.from in
        let count : i ≡ at + length (digits (drop at text)) = sym (add-zero i) ∙ sym (ap (λ (l : List ℕ). i + length l) none) ∙ g.count in
        let minus : i - at ≡ length (digits (drop at text)) = omega arith in
        record {
          ends = count;
          inside = g.inside;
          is = sym (ap (number n) none) ∙ g.is;
          small = g.small;
          tens = g.tens ∙ ap (λ (z : ℕ). 10 ^ z) minus;
        }
