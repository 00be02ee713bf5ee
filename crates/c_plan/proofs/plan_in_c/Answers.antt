use Rattle.planning.proofs.PlanLaws.{checks-refused, checks-passed}
use mathlib.Core.Path.{refl}
use Rattle.c_plan.specs.Plan.{handed}
use Rattle.c_plan.proofs.PlannedLaws.{by-settings, plan-refused, check-refused}
use Rattle.c_plan.proofs.plan_in_c.Goals as goal

pub plan_handed-requires : goal.plan_handed-requires
plan_handed-requires c =
    let a = c.args in
    checks-passed a.voice.now a.sheet.now refl c.check.ensures c.in-Ok.is

pub returns-in-Err : goal.returns-in-Err
returns-in-Err c =
    let a = c.args in
    let h = (handed a.index.now a.marks.now a.sizes.now a.rows.now a.excitation.now a.decoded.now a.state.now a.summary.now) in
    let all = plan-refused a.voice.now a.sheet.now _ h _ _ (check-refused a.voice.now a.sheet.now _ h _ (checks-refused a.voice.now a.sheet.now c.settings_of-chosen.ensures c.check.ensures c.in-Err.is)) c.from.ensures in
    record { value = all.0; summary_after = all.1 }

pub returns-in-Ok : goal.returns-in-Ok
returns-in-Ok c =
    let a = c.args in
    let all = by-settings a.voice.now a.sheet.now (handed a.index.now a.marks.now a.sizes.now a.rows.now a.excitation.now a.decoded.now a.state.now a.summary.now) c.settings_of-chosen.ensures (c.plan_handed.ensures.value, c.plan_handed.ensures.summary_after) in
    record { value = all.0; summary_after = all.1 }
