use Rattle.std.proofs.Common.{◌≡◌, ◌<◌}
use Rattle.lpc_fixed.proofs.SumLaws.{from}
use Rattle.lpc_fixed.proofs.sum.Given as goal

abbrev pub invariant-loop-k : goal.invariant-loop-k
invariant-loop-k l = (0 < l.k) × (l.acc ≡ from l.start l.values l.window l.order l.place l.k)
