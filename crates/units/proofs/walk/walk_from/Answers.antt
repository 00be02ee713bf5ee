use Rattle.units.proofs.WalkLaws.{walk-reads, walk_step}
use Rattle.units.proofs.walk.walk_from.Goals as goal

pub segment_at-read-requires : goal.segment_at-read-requires
segment_at-read-requires c = walk-reads c.args.sheet.now c.args.count c.args.n c.args.at c.requires.0 c.requires.1

pub returns : goal.returns
returns c = walk_step c.args.sheet.now c.args.count c.args.n c.args.at c.requires.0 c.requires.1 _ _ c.segment_at-read.ensures
