use Rattle.planning.proofs.PlanLaws.{checks-refused, checks-passed}
use Rattle.c_plan.proofs.PlannedLaws.{need-refused, need-passed}
use Rattle.c_plan.proofs.need_in_c.Goals as goal

pub returns-in-Err : goal.returns-in-Err
returns-in-Err c =
    let a = c.args in
    let all = need-refused a.voice.now a.sheet.now _ a.need.now _ _ (checks-refused a.voice.now a.sheet.now c.settings_of.ensures c.check.ensures c.in-Err.is) c.from.ensures in
    record { value = all.0; need_after = all.1 }

pub returns-in-Ok : goal.returns-in-Ok
returns-in-Ok c =
    let a = c.args in
    let f = checks-passed a.voice.now a.sheet.now c.settings_of.ensures c.check.ensures c.in-Ok.is in
    let all = need-passed a.voice.now a.sheet.now _ a.need.now _ _ _ f.passed f.need c.report_need.ensures.0 c.report_need.ensures.1 in
    record { value = all.0; need_after = all.1 }
