use mathlib.Core.Path.{◌≡◌, sym, ◌∙◌}
use mathlib.Core.Bool.{true, false}
use Prim.Native.Nat.{◌+◌, ◌<◌}
use native.Mathlib.Nat.{lt_of_lt_of_le}
use native.Mathlib.Omega.{arith}
use lib.ListN.{length, drop}
use Rattle.decimal.specs.Decimal.{begins}
use Rattle.decimal.proofs.DigitLaws.{ten-mono}
use Rattle.decimal.proofs.TextLaws.{has-inside, number_small, power_small, power-some, value-whole, value-part}
use Rattle.decimal.proofs.short_to_f32.Goals as goal
use Rattle.decimal.proofs.short_to_f32.Goals.{Then-has, then-minus, else-minus, then-minus-2, else-minus-2}

pub read_digits-whole-requires : goal.read_digits-whole-requires
read_digits-whole-requires c = (c.sign_length-start.ensures.1, c.requires, ten-mono {i = 0} (omega arith))

-- a point follows
point : (c : Then-has) → begins 46 (drop c.read_digits-whole.result.end c.args.text.now) ≡ true
point c = sym c.has.ensures ∙ c.if-has.true

pub read_digits-all-requires : goal.read_digits-all-requires
read_digits-all-requires c =
    let w = c.read_digits-whole in
    let inside : w.result.end < length c.args.text.now = has-inside 46 c.args.text.now w.result.end (point c) in
    (omega arith, c.requires, lt_of_lt_of_le w.ensures.small (ten-mono {j = w.result.end + 1} (omega arith)))

pub nearest_f32-requires : goal.nearest_f32-requires
nearest_f32-requires c =
    let at = c.read_digits-whole.result.end + 1 in
    let n = c.read_digits-whole.result.number in
    let p = c.read_digits-all in
    (number_small c.args.text.now at n p.result c.requires p.ensures, power-some c.args.text.now at n p.result c.requires p.ensures, power_small c.args.text.now at n p.result c.requires p.ensures (omega arith))

pub returns-then-has : goal.returns-then-has
returns-then-has c =
    let value = value-part c.args.text.now c.sign_length-start.result c.read_digits-whole.result c.sign_length-start.ensures.0 c.read_digits-whole.ensures c.read_digits-all.result (sym c.has.ensures ∙ c.if-has.true) c.read_digits-all.ensures in
    elim c.if-minus.branch [
      | then-minus w ↦
          let minus : begins 45 c.args.text.now ≡ true = cc in
          c.nearest_f32.ensures ∙ rw w.nearest_f32-is (sym (rw minus at value))
      | else-minus w ↦
          let minus : begins 45 c.args.text.now ≡ false = cc in
          let is : c.if-minus.nearest_f32 ≡ false = cc in
          c.nearest_f32.ensures ∙ rw is (sym (rw minus at value))
    ]

pub nearest_f32-requires-2 : goal.nearest_f32-requires-2
nearest_f32-requires-2 c =
    (number_small c.args.text.now c.sign_length-start.result 0 c.read_digits-whole.result c.requires c.read_digits-whole.ensures, omega arith, omega arith)

pub returns : goal.returns
returns c =
    let value = value-whole c.args.text.now c.sign_length-start.result c.read_digits-whole.result c.sign_length-start.ensures.0 c.read_digits-whole.ensures (sym c.has.ensures ∙ c.if-has.false) in
    elim c.if-minus-2.branch [
      | then-minus-2 w ↦
          let minus : begins 45 c.args.text.now ≡ true = cc in
          c.nearest_f32-2.ensures ∙ rw w.nearest_f32-is (sym (rw minus at value))
      | else-minus-2 w ↦
          let minus : begins 45 c.args.text.now ≡ false = cc in
          let is : c.if-minus-2.nearest_f32 ≡ false = cc in
          c.nearest_f32-2.ensures ∙ rw is (sym (rw minus at value))
    ]
