-- Either way one was compared.
use Rattle.vectors.proofs.TallyLaws.{one_is, one-within}
use Rattle.vectors.proofs.Tally.one.Goals as goal

pub returns : goal.returns
returns c = let e = one_is c.args.same c.from.ensures c.from-2.ensures in (e, rw e (one-within c.args.same))
