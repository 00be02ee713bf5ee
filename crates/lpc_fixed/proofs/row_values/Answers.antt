use Rattle.std.proofs.Common.{◌<◌, replicate, arith}
use Rattle.base.proofs.BufferLaws.{stored-none, stored_more}
use Rattle.lpc_fixed.proofs.row_values.Goals as goal

pub loop-k-init : goal.loop-k-init
loop-k-init c = (omega arith, stored-none _ 0 _)

pub loop-k-preserved : goal.loop-k-preserved
loop-k-preserved c =
    let l = c.loop-k in
    let k : l.k < 32 = omega arith in
    (omega arith, rw (l.invariant.1, c.row_value.ensures, c.u16_at.ensures) (stored_more _ l.k (replicate 32 0) k))
