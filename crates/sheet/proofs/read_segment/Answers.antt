use Rattle.std.proofs.Common.{refl, le-ltb, lt-ltb}
use Rattle.sheet.specs.Sheet.{segment}
use Rattle.sheet.proofs.AnswerLaws.{read, test-passes, test-fails, exits, goes_on}
use Rattle.sheet.proofs.read_segment.Goals as goal

pub returns-in_err-name : goal.returns-in_err-name
unfolding segment
returns-in_err-name c = exits _ _ c.from_residual.ensures.1 c.in_err-name.ensures

pub returns-in_err-end : goal.returns-in_err-end
unfolding segment
returns-in_err-end c = goes_on _ c.in_ok-name.ensures (exits _ _ c.from_residual-in_err-end.ensures.1 c.in_err-end.ensures)

pub returns-in_err-follower : goal.returns-in_err-follower
unfolding segment
returns-in_err-follower c =
    goes_on _ c.in_ok-name.ensures (goes_on _ c.in_ok-end.ensures (exits _ _ c.from_residual-in_err-follower.ensures.1 c.in_err-follower.ensures))

pub returns-then-count-follower : goal.returns-then-count-follower
unfolding segment
returns-then-count-follower c =
    goes_on _ c.in_ok-name.ensures (goes_on _ c.in_ok-end.ensures (goes_on _ c.in_ok-follower.ensures
    (test-passes _ (lt-ltb _ _ c.if-count-follower.true))))

pub returns : goal.returns
unfolding segment
returns c =
    let name = c.in_ok-name.ensures in
    let follower = c.in_ok-follower.ensures in
    goes_on _ name (goes_on _ c.in_ok-end.ensures (goes_on _ follower
    (test-fails (le-ltb _ _ c.if-count-follower.false) (read refl follower.within.0 (name.within.1, c.if-count-follower.false)))))
