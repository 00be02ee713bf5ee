use Rattle.std.proofs.Common.{arith}
use Rattle.sheet.proofs.ValueLaws.{text-end, text-long, text-cut, text-read}
use Rattle.sheet.proofs.read_text.Goals as goal

pub returns-in_default : goal.returns-in_default
returns-in_default c = text-end _ _ (omega (arith, c.in_default.ensures.lookup))

pub returns-then-len-gt12 : goal.returns-then-len-gt12
returns-then-len-gt12 c = text-long _ _ _ c.in-Some.ensures.lookup.3 (omega arith)

pub returns-in_default-get : goal.returns-in_default-get
returns-in_default-get c = text-cut _ _ _ c.in-Some.ensures.lookup.3 (omega arith) (omega (arith, c.in_default-get.ensures.lookup))

pub returns : goal.returns
returns c =
    let part = c.in-Some-get.ensures.lookup.0 in
    text-read _ _ _ c.in-Some.ensures.lookup.3 (omega arith) _ _ _ c.text_to_f32.ensures c.from.ensures part.2 part.1
