use lib.Ieee.{nan}
use Rattle.lpc.specs.Sums.{float_step}
use Rattle.lpc.proofs.SumLaws.{Summing}
use Rattle.lpc_float.proofs.sum.Given as goal

abbrev pub invariant-loop-k : goal.invariant-loop-k
invariant-loop-k l = Summing float_step nan l.start l.values l.history l.order l.place l.acc l.at l.k
