-- One more call leaves a sound tally.
use Rattle.std.proofs.Common.{sym, subst}
use Rattle.replay.specs.Tallies.{Sound}
use Rattle.replay.proofs.TallyLaws.{counted-by, counted-sound}
use Rattle.replay.proofs.Tally.counted.Goals as goal

pub returns : goal.returns
returns c =
    let a = c.args in
    let r = c.requires in
    let e = counted-by a.self a.kind a.periods a.agrees c.wrong_with.ensures c.first_with.ensures in
    (e, subst Sound (sym e) (counted-sound a.self a.kind a.periods a.agrees r.0 r.1.1.0 r.1.1.1))
