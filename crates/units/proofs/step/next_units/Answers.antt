use native.Mathlib.Omega.{arith}
use Rattle.units.proofs.WalkLaws.{walking-number}
use Rattle.units.proofs.StepLaws.{few-frames, steps-pair}
use Rattle.units.proofs.step.next_units.Goals as goal

pub select-e-requires : goal.select-e-requires
select-e-requires c =
    let n = c.next_pair-after in
    let w = n.ensures.0.0 in
    (c.requires.0, (c.requires.1.0, (c.requires.1.1.0, (c.requires.1.1.1.0.reached.named, (w.reached.named, walking-number c.args.sheet.now c.args.by.places.segments.count n.result w)))))

pub unit_pair-units-requires : goal.unit_pair-units-requires
unit_pair-units-requires c =
    let f = few-frames c.args.file.now c.args.by.voice c.requires.0.opened (omega (arith, c.well_formed.0.1)) in
    omega (arith, f, c.select-e.ensures.1)

pub returns : goal.returns
returns c =
    steps-pair c.args.file.now (λ i. (c.type_inv.file i).fits) c.args.by.voice c.requires.0.opened c.args.by.fold c.args.sheet.now
    c.args.by.places.segments.count c.args.walk _ c.next_pair-after.ensures _ c.select-e.ensures _
    c.unit_pair-units.ensures
