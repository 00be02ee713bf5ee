-- What is found is what is stored of the call.
use Rattle.std.proofs.Common.{arith}
use Rattle.replay.specs.Stored.{compared}
use Rattle.replay.proofs.compared.Goals as goal

pub returns : goal.returns
unfolding compared
returns c =
    let k = c.kind_of.ensures in
    let p = c.periods_in.ensures in
    let x = c.requires in
    (rw (k.0, p.0, c.agrees.ensures), (x.1.0, (k.1, omega (arith, p.1, x.1.1))))
