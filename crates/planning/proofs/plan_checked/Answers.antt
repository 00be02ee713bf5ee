use mathlib.Core.Path.{refl, sym, ◌∙◌}
use Rattle.call.specs.Buffers.{lent}
use Rattle.planning.proofs.PlanLaws.{fits-is, short-ends}
use Rattle.planning.proofs.plan_checked.Goals as goal

pub returns-then-not-holds : goal.returns-then-not-holds
returns-then-not-holds c =
    let a = c.args in
    let all = short-ends a.file.now a.sheet.now a.settings a.fit c.requires (lent a.index.now a.marks.now a.sizes.now a.rows.now a.excitation.now a.decoded.now) _ _ (sym c.holds.ensures ∙ c.if-not-holds.true) c.refused.ensures refl in record { value = all.0; decoded_after = all.1 }

pub plan_filled-requires : goal.plan_filled-requires
plan_filled-requires c =
    let a = c.args in
    (c.requires, fits-is a.file.now a.sheet.now a.settings a.fit c.requires (lent a.index.now a.marks.now a.sizes.now a.rows.now a.excitation.now a.decoded.now) ∙ sym c.holds.ensures ∙ c.if-not-holds.false)
