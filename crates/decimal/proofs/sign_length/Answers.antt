use Rattle.std.proofs.Common.{◌≡◌, true, false, arith}
use Rattle.decimal.specs.Decimal.{begins}
use Rattle.decimal.proofs.TextLaws.{has-inside, plus-sign, minus-sign, no_sign}
use Rattle.decimal.proofs.sign_length.Goals as goal
use Rattle.decimal.proofs.sign_length.Goals.{then-has, else-has}

pub returns-then-has-2 : goal.returns-then-has-2
returns-then-has-2 c =
    let text = c.args.text.now in
    elim c.if-has.branch [
      | then-has w ↦
          let plus : begins 43 text ≡ true = cc in
          (plus-sign text plus, has-inside 43 text 0 plus)
      | else-has w ↦
          let plus : begins 43 text ≡ false = cc in
          let minus : begins 45 text ≡ true = cc in
          (minus-sign text plus minus, has-inside 45 text 0 minus)
    ]

pub returns-else-has-2 : goal.returns-else-has-2
returns-else-has-2 c =
    let text = c.args.text.now in
    elim c.if-has.branch [
      | then-has w ↦ (cc, omega arith)
      | else-has w ↦
          let plus : begins 43 text ≡ false = cc in
          let minus : begins 45 text ≡ false = cc in
          (no_sign text plus minus, omega arith)
    ]
