use native.Mathlib.Omega.{arith}
use Rattle.base.specs.Bytes.{elements}
use Rattle.lines.specs.Lines.{samples}
use Rattle.lines.proofs.PutLaws.{start, turn, end_of}
use Rattle.lines.proofs.put_samples.Goals as goal

pub loop-i-init : goal.loop-i-init
loop-i-init c = start _ _ _ _ _ _

pub loop-i-preserved : goal.loop-i-preserved
loop-i-preserved c =
    let l = c.loop-i in
    turn _ _ _ _ _ _ l.i l.invariant c.loop-i-test.true c.u16_at.ensures c.put_next-end.ensures.puts c.put_next-end.ensures.upper_bound

pub returns : goal.returns
unfolding samples elements
returns c = let all = end_of _ _ _ _ _ _ c.loop-i.i c.loop-i.invariant (omega arith) in record { puts = all.0; upper_bound = all.1 }
