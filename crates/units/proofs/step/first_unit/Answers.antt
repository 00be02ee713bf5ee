use Rattle.units.proofs.StepLaws.{starts-units}
use Rattle.units.proofs.step.first_unit.Goals as goal

pub returns : goal.returns
returns c =
    starts-units c.args.sheet.now c.args.places.segments.count c.first_pair.result c.first_pair.ensures
