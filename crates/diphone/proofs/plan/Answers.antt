use mathlib.Core.Path.{refl, ap, ◌∙◌}
use Rattle.call.specs.declared.Planned.{Planned}
use Rattle.call.specs.Buffers.{lent, called_number}
use Rattle.call.proofs.NumberLaws.{planned-number}
use Rattle.planning.proofs.PlanLaws.{checks-passed, refused-ends}
use Rattle.diphone.proofs.plan.Goals as goal

pub plan_checked-requires : goal.plan_checked-requires
plan_checked-requires c =
    let a = c.args in
    checks-passed a.voice.now a.sheet.now refl c.check.ensures c.in-Ok.is

pub returns-in-Err : goal.returns-in-Err
returns-in-Err c =
    let a = c.args in
    let b = lent a.index.now a.marks.now a.sizes.now a.rows.now a.excitation.now a.decoded.now in
    let k = c.check.ensures in
    let h = refused-ends a.voice.now a.sheet.now a.settings b _ _ k c.in-Err.is c.refused.ensures refl in
    (h.0, h.1, ap (λ (p : Planned). called_number p.answer) h.0 ∙ planned-number a.voice.now a.sheet.now a.settings b)

pub returns-in-Ok : goal.returns-in-Ok
returns-in-Ok c =
    let a = c.args in
    let b = lent a.index.now a.marks.now a.sizes.now a.rows.now a.excitation.now a.decoded.now in
    (c.plan_checked.ensures.value, c.plan_checked.ensures.decoded_after, ap (λ (p : Planned). called_number p.answer) c.plan_checked.ensures.value ∙ planned-number a.voice.now a.sheet.now a.settings b)
