-- A length of a head that fits is not above its limit.
use Rattle.std.proofs.Common.{◌∙◌}
use Rattle.replay.proofs.StoredLaws.{fitting-at}
use Rattle.replay.proofs.length_at.Goals as goal

pub returns : goal.returns
returns c =
    let e = c.from.ensures ∙ c.u16_at.ensures in
    (e, rw e (fitting-at c.args.head.now 9 c.args.i c.requires.1 c.requires.0.low))
