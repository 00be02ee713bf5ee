use Rattle.std.proofs.Common.{sym, ◌∙◌, arith}
use Rattle.sheet.proofs.AnswerLaws.{same-reading, exits, goes_on}
use Rattle.sheet.proofs.NameLaws.{named, name-named, name-long, name-cut, name-bad, name-good}
use Rattle.sheet.proofs.read_name.Goals as goal

pub returns-in_err-len : goal.returns-in_err-len
returns-in_err-len c = same-reading (name-named _) (exits named _ c.from_residual.ensures.1 c.in_err-len.ensures)

pub returns-then-len-gt32 : goal.returns-then-len-gt32
returns-then-len-gt32 c =
    same-reading (name-named _) (goes_on named c.in_ok-len.ensures (name-long c.args.sheet.now _ _ c.if-len-gt32.true))

pub overflow_add-end : goal.overflow_add-end
overflow_add-end c = omega (arith, c.in_ok-len.ensures.within.0)

pub returns-in_default : goal.returns-in_default
returns-in_default c =
    let i = c.in_ok-len.ensures in
    same-reading (name-named _) (goes_on named i (name-cut c.args.sheet.now _ _ c.if-len-gt32.false i.within.0 (omega (arith, c.in_default.ensures.lookup))))

pub returns-then-not-is_printable : goal.returns-then-not-is_printable
returns-then-not-is_printable c =
    let part = c.in-Some.ensures.lookup.0 in
    same-reading (name-named _)
    (goes_on named c.in_ok-len.ensures
    (name-bad c.args.sheet.now _ _ (omega arith) part.1 _ part.2 (sym c.is_printable.ensures ∙ c.if-not-is_printable.true)))

pub returns : goal.returns
returns c =
    let part = c.in-Some.ensures.lookup.0 in
    same-reading (name-named _)
    (goes_on named c.in_ok-len.ensures
    (name-good c.args.sheet.now _ _ (omega arith) part.1 _ part.2 (sym c.is_printable.ensures ∙ c.if-not-is_printable.false)))
