use Rattle.call.specs.Buffers.{lent}
use Rattle.planning.proofs.PlanLaws.{can-fill, spoken-ends}
use Rattle.planning.proofs.plan_filled.Goals as goal

pub fill-requires : goal.fill-requires
fill-requires c =
    let a = c.args in
    can-fill a.file.now a.sheet.now a.settings a.fit c.requires.0 (lent a.index.now a.marks.now a.sizes.now a.rows.now a.excitation.now a.decoded.now) c.requires.1

pub returns : goal.returns
returns c =
    let a = c.args in
    let f = c.fill.ensures in
    let all = spoken-ends a.file.now a.sheet.now a.settings a.fit c.requires.0 (lent a.index.now a.marks.now a.sizes.now a.rows.now a.excitation.now a.decoded.now) _ _ _ c.requires.1 c.summary.ensures (rw c.filter_in.ensures at c.fresh.ensures) f in record { value = all.0; decoded_after = all.1 }
