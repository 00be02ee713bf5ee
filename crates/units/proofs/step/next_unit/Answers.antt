use Rattle.units.proofs.StepLaws.{pair_left, steps-second, steps_first}
use Rattle.units.proofs.step.next_unit.Goals as goal

pub returns-in-Some : goal.returns-in-Some
returns-in-Some c =
    steps-second c.args.file.now c.args.by.voice c.args.by.fold c.args.sheet.now c.args.by.places.segments.count c.args.walk _ c.in-Some.is c.requires.1.1.1.0

pub next_units-step-requires : goal.next_units-step-requires
next_units-step-requires c =
    (c.requires.0, (c.requires.1.0, (c.requires.1.1.0, (c.requires.1.1.1.0.pairs, pair_left c.args.walk c.in-None.is c.requires.1.1.1.1))))

pub returns-in-None : goal.returns-in-None
returns-in-None c =
    steps_first c.args.file.now c.args.by.voice c.args.by.fold c.args.sheet.now c.args.by.places.segments.count c.args.walk c.in-None.is c.next_units-step.result c.next_units-step.ensures
