use Rattle.std.proofs.Common.{arith}
use Rattle.sheet.proofs.AnswerLaws.{exit}
use Rattle.sheet.proofs.ItemLaws.{skip_first, skip-refused, skip-on, skip-done}
use Rattle.sheet.proofs.PlaceLaws.{uncounted, by_count}
use Rattle.sheet.proofs.read_items.Goals as goal

pub returns-in_err-count : goal.returns-in_err-count
returns-in_err-count g c = exit _ c.from_residual.ensures.1 (uncounted g.T.Item.one _ _ c.in_err-count.ensures)

pub loop-init : goal.loop-init
loop-init g c = skip_first _ _ _ _ c.in_ok-count.ensures.within.0

pub returns-in_err-place : goal.returns-in_err-place
returns-in_err-place g c =
    exit _ c.from_residual-in_err-place.ensures.1
    (by_count g.T.Item.one _ _ c.in_ok-count.ensures
    (skip-refused _ _ _ _ _ _ c.loop.invariant c.loop-test.true c.in_err-place.ensures))

pub loop-preserved : goal.loop-preserved
loop-preserved g c = skip-on _ _ _ _ _ _ c.loop.invariant c.loop-test.true c.in_ok-place.ensures

pub returns : goal.returns
returns g c = by_count g.T.Item.one _ _ c.in_ok-count.ensures (skip-done _ _ _ _ _ _ c.loop.invariant (omega arith))
