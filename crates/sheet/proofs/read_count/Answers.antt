use Rattle.std.proofs.Common.{refl, arith, le-ltb, lt-ltb}
use Rattle.sheet.specs.Sheet.{count}
use Rattle.sheet.proofs.AnswerLaws.{read, test-passes, test-fails, exits, goes_on}
use Rattle.sheet.proofs.read_count.Goals as goal

pub returns-in_err-count : goal.returns-in_err-count
unfolding count
returns-in_err-count c = exits _ _ c.from_residual.ensures.1 c.in_err-count.ensures

pub returns-then-count-gt4096 : goal.returns-then-count-gt4096
unfolding count
returns-then-count-gt4096 c = goes_on _ c.in_ok-count.ensures (test-passes _ (lt-ltb _ _ c.if-count-gt4096.true))

pub returns : goal.returns
unfolding count
returns c =
    let i = c.in_ok-count.ensures in
    goes_on _ i (test-fails (le-ltb _ _ c.if-count-gt4096.false) (read refl i.within.0 (omega arith)))
