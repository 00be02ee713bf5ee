use Rattle.std.proofs.Common.{◌∙◌, arith}
use Rattle.text.proofs.Utf8Laws.{utf8-ascii}
use Rattle.text.proofs.ascii_end.Goals as goal

pub loop-i-preserved : goal.loop-i-preserved
loop-i-preserved c = utf8-ascii c.args.s.now c.loop-i.i (omega arith) (omega arith) ∙ c.loop-i.invariant
