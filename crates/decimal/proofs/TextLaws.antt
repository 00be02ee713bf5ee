-- Laws of a text's parts, by their places in it.
use mathlib.Core.Path.{◌≡◌, sym, ap, ◌∙◌}
use mathlib.Core.Bool.{Bool, true, false, ◌&&◌, true≢false}
use mathlib.Core.List.{List, [], ◌++◌, append-nil}
use Prim.Native.Nat.{ℕ, ◌+◌, ◌^◌, ◌≤◌, ◌<◌}
use native.Mathlib.Nat.{le_trans, lt_of_lt_of_le, lt_of_le_of_lt}
use native.Mathlib.Omega.{arith}
use borrow.Author.Tests.{lt-ltb, le-ltb}
use lib.Dec.{ltb, eqb, lit<, lit≤}
use lib.ListN.{length, drop, get_or, length-append, drop_of_length-le}
use lib.Seq.{drop-cons, drop-drop}
use lib.Ieee.{binary32, round}
use Rattle.base.proofs.CaseLaws.{by_order}
use Rattle.decimal.specs.Decimal.{begins, digits, after_sign, after_point, whole, part, number, numerator, denominator, negative, text_value}
use Rattle.decimal.specs.Reading.{DigitsRead}
use Rattle.decimal.specs.declared.Digits.{Digits}
use Rattle.decimal.proofs.DigitLaws.{number_append, ten-mono}

-- ---- the byte at a place
module _ (byte : ℕ) (text : List ℕ) (at : ℕ) where
  pub has_here : at < length text → eqb (get_or text at 0) byte ≡ begins byte (drop at text)
  unfolding begins
  has_here h = rw (drop-cons text at 0 h)

  pub has-none : length text ≤ at → false ≡ begins byte (drop at text)
  unfolding begins
  has-none h = rw (drop_of_length-le text h)

  pub has-inside : begins byte (drop at text) ≡ true → at < length text
  has-inside e = by_order at (length text) (λ h. h) (λ h. absurd (true≢false (sym e ∙ sym (has-none h))))

-- ---- a sign in front
module _ (text : List ℕ) where
  pub plus-sign : begins 43 text ≡ true → drop 1 text ≡ after_sign text
  unfolding after_sign
  plus-sign e = rw e

  pub minus-sign : begins 43 text ≡ false → begins 45 text ≡ true → drop 1 text ≡ after_sign text
  unfolding after_sign
  minus-sign e f = rw (e, f)

  pub no_sign : begins 43 text ≡ false → begins 45 text ≡ false → text ≡ after_sign text
  unfolding after_sign
  no_sign e f = rw (e, f)

-- ---- the numbers that were read stay small
module _ (text : List ℕ) (at n : ℕ) (r : Digits) (few : length text ≤ 12) (read : DigitsRead text at n r) where
  pub number_small : r.number < 2 ^ 40
  number_small = lt_of_lt_of_le read.small (le_trans (ten-mono {j = 12} (le_trans read.inside few)) (lit≤ tt))

  pub power_small : 0 < at → r.power < 2 ^ 37
  power_small A = rw read.tens (lt_of_le_of_lt (ten-mono {j = 11} (let e = read.ends in let i = read.inside in omega arith)) (lit< tt))

  pub power-some : 0 < r.power
  power-some = rw read.tens (ten-mono {i = 0} (omega arith))

-- ---- the value, where the digits before the point are from the place `start` on
counted : (a b c : ℕ) → c ≡ a + b → ltb a c ≡ ltb 0 b
counted a b c e = by_order 0 b (λ h. lt-ltb a c (omega arith) ∙ sym (lt-ltb 0 b h)) (λ h. le-ltb a c (omega arith) ∙ sym (le-ltb 0 b h))

module _ (text : List ℕ) (start : ℕ) (w : Digits) (sign : drop start text ≡ after_sign text) (read : DigitsRead text start 0 w) where
  whole_is : whole text ≡ digits (drop start text)
  unfolding whole
  whole_is = ap digits (sym sign)

  part-is : part text ≡ after_point (drop w.end text)
  unfolding part
  part-is =
      rw (whole_is, ← sign) (ap after_point (drop-drop (length (digits (drop start text))) start text ∙ ap (λ (z : ℕ). drop z text) (sym read.ends)))

  value-is : (n d : ℕ) (some : Bool) → numerator text ≡ n → denominator text ≡ d → ltb 0 (length (whole text ++ part text)) ≡ some → text_value text ≡ round binary32 (begins 45 text && some) n d
  unfolding text_value negative
  value-is n d some e f g = rw (e, f, g)

  module _ (point : begins 46 (drop w.end text) ≡ false) where
    no_part : part text ≡ []
    unfolding after_point
    no_part = part-is ∙ rw point

    pub value-whole : text_value text ≡ round binary32 (begins 45 text && ltb start w.end) w.number 1
    unfolding numerator denominator
    value-whole =
        value-is w.number 1 (ltb start w.end)
        (rw (no_part, append-nil, whole_is) (sym read.is))
        (rw no_part)
        (rw (no_part, append-nil, whole_is) (sym (counted start (length (digits (drop start text))) w.end read.ends)))

  module _ (p : Digits) (point : begins 46 (drop w.end text) ≡ true) (more : DigitsRead text (w.end + 1) w.number p) where
    some-part : part text ≡ digits (drop (w.end + 1) text)
    unfolding after_point
    some-part = part-is ∙ rw point (ap digits (drop-drop 1 w.end text))

    pub value-part : text_value text ≡ round binary32 (begins 45 text && ltb (start + 1) p.end) p.number p.power
    unfolding numerator denominator
    value-part =
        let a = length (digits (drop start text)) in
        let b = length (digits (drop (w.end + 1) text)) in
        let e = read.ends in
        let f = more.ends in
        value-is p.number p.power (ltb (start + 1) p.end)
        (rw (some-part, whole_is, number_append) (ap (λ (z : ℕ). number z (digits (drop (w.end + 1) text))) (sym read.is) ∙ sym more.is))
        (rw some-part (sym more.tens))
        (rw (some-part, whole_is, length-append) (sym (counted (start + 1) (a + b) p.end (omega arith))))
