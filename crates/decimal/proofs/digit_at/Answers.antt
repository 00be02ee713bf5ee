use Rattle.std.proofs.Common.{◌≡◌, ◌-◌, ◌≤◌, get_or, arith}
use Rattle.decimal.proofs.DigitLaws.{past_end, digit-in, other-out}
use Rattle.decimal.proofs.digit_at.Goals as goal

pub returns-in_err-byte : goal.returns-in_err-byte
returns-in_err-byte c =
    let past = c.in_err-byte.ensures.lookup.3 in
    rw c.from_residual.ensures (past_end c.args.text.now c.args.at past)

pub returns-then-is_ascii_digit : goal.returns-then-is_ascii_digit
returns-then-is_ascii_digit c =
    let there = c.in_ok-byte.ensures.lookup.3 in
    let same = there.1 0 in
    let range = c.if-is_ascii_digit.ensures.cases in
    let low : 48 ≤ get_or c.args.text.now c.args.at 0 = omega (arith, range, same) in
    let high : get_or c.args.text.now c.args.at 0 ≤ 57 = omega (arith, range, same) in
    let value : c.from.result ≡ get_or c.args.text.now c.args.at 0 - 48 = omega (arith, c.from.ensures, same) in
    (there.0, omega (arith, range, c.from.ensures), rw value (digit-in c.args.text.now c.args.at there.0 low high))

pub returns-else-is_ascii_digit : goal.returns-else-is_ascii_digit
returns-else-is_ascii_digit c =
    let there = c.in_ok-byte.ensures.lookup.3 in
    let same = there.1 0 in
    other-out c.args.text.now c.args.at there.0 (λ l r. omega (arith, l, r, c.if-is_ascii_digit.ensures.cases, same))
