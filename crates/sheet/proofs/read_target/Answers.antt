use Rattle.std.proofs.Common.{refl}
use Rattle.sheet.specs.Sheet.{target}
use Rattle.sheet.proofs.AnswerLaws.{read, exits, goes_on}
use Rattle.sheet.proofs.read_target.Goals as goal

pub returns-in_err-pos : goal.returns-in_err-pos
unfolding target
returns-in_err-pos c = exits _ _ c.from_residual.ensures.1 c.in_err-pos.ensures

pub returns-in_err-f0 : goal.returns-in_err-f0
unfolding target
returns-in_err-f0 c = goes_on _ c.in_ok-pos.ensures (exits _ _ c.from_residual-in_err-f0.ensures.1 c.in_err-f0.ensures)

pub returns : goal.returns
unfolding target
returns c = goes_on _ c.in_ok-pos.ensures (goes_on _ c.in_ok-f0.ensures (read refl c.in_ok-f0.ensures.within.0 tt))
