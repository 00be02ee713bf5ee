use Rattle.std.proofs.Common.{arith}
use Rattle.sheet.proofs.AnswerLaws.{same-reading, exits, goes_on}
use Rattle.sheet.proofs.ValueLaws.{float-word, float-finite, float-infinite}
use Rattle.sheet.proofs.read_float.Goals as goal

pub returns-in_err-word : goal.returns-in_err-word
returns-in_err-word c = same-reading (float-word _) (exits _ _ c.from_residual.ensures.1 c.in_err-word.ensures)

pub returns-then-not-is_finite : goal.returns-then-not-is_finite
returns-then-not-is_finite c =
    same-reading (float-word _) (goes_on _ c.in_ok-word.ensures (float-infinite _ _ _ c.f32_from_word-float.ensures (grind arith)))

pub returns : goal.returns
returns c =
    let i = c.in_ok-word.ensures in
    same-reading (float-word _) (goes_on _ i (float-finite _ _ _ c.f32_from_word-float.ensures (grind arith) i.within.0))
