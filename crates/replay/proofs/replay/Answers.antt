-- One more call that was read and compared.
use Rattle.std.proofs.Common.{rules, arith}
use Rattle.replay.proofs.TallyLaws.{counted-calls}
use Rattle.replay.proofs.replay.Goals as goal

pub loop-t-smaller : goal.loop-t-smaller
loop-t-smaller g c = omega (arith, counted-calls _ _ _ _ c.counted-t.ensures.0, c.loop-t-test.true)

pub loop-t-preserved : goal.loop-t-preserved
loop-t-preserved g c =
    let e = counted-calls _ _ _ _ c.counted-t.ensures.0 in
    (c.in-Call.ensures.0, search rules, c.counted-t.ensures.1, omega (arith, e, c.loop-t-test.true))
