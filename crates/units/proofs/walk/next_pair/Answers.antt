use Rattle.units.proofs.WalkLaws.{walking-next}
use Rattle.units.proofs.walk.next_pair.Goals as goal

pub returns : goal.returns
returns c =
    ((walking-next c.args.sheet.now c.args.count c.args.walk c.walk_from.result c.requires.0 c.walk_from.ensures, c.walk_from.ensures.0.1), c.walk_from.ensures.1)
