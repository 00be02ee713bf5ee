use mathlib.Core.Path.{sym, ◌∙◌}
use Rattle.units.proofs.WalkLaws.{all_read, all_are, walking-first}
use Rattle.units.proofs.walk.first_pair.Goals as goal

pub walk_from-requires : goal.walk_from-requires
walk_from-requires c = (all_read c.args.sheet.now c.args.places c.requires.0, c.requires.1)

pub returns : goal.returns
returns c =
    let all = sym (all_are c.args.sheet.now c.args.places c.requires.0) ∙ c.walk_from.ensures.1 in
    ((walking-first c.args.sheet.now c.args.places.segments.count c.walk_from.result (c.walk_from.ensures.0, all), c.walk_from.ensures.0.1), all)
