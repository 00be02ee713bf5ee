use native.Mathlib.Omega.{arith}
use Rattle.refusal.specs.declared.Refusal.TheVariants.{ShortBuffer}
use Rattle.c_plan.specs.Plan.{handed}
use Rattle.c_plan.proofs.PlannedLaws.{plan-refused, state-short, summary-short, call-refused, call-spoken}
use Rattle.c_plan.proofs.planned.plan_handed.Goals as goal

pub returns-then-state-lt168 : goal.returns-then-state-lt168
returns-then-state-lt168 c =
    let a = c.args in
    let h = (handed a.index.now a.marks.now a.sizes.now a.rows.now a.excitation.now a.decoded.now a.state.now a.summary.now) in
    let all = plan-refused a.voice.now a.sheet.now a.settings h ShortBuffer _ (state-short a.voice.now a.sheet.now a.settings h (omega (arith, c.if-state-lt168.true)) c.requires.passed) c.from.ensures in
    record { value = all.0; summary_after = all.1 }

pub returns-then-summary-lt48 : goal.returns-then-summary-lt48
returns-then-summary-lt48 c =
    let a = c.args in
    let h = (handed a.index.now a.marks.now a.sizes.now a.rows.now a.excitation.now a.decoded.now a.state.now a.summary.now) in
    let all = plan-refused a.voice.now a.sheet.now a.settings h ShortBuffer _ (summary-short a.voice.now a.sheet.now a.settings h (omega (arith, c.if-state-lt168.false)) (omega (arith, c.if-summary-lt48.true)) c.requires.passed) c.from-then-summary-lt48.ensures in
    record { value = all.0; summary_after = all.1 }

pub returns-in-Err : goal.returns-in-Err
returns-in-Err c =
    let a = c.args in
    let h = (handed a.index.now a.marks.now a.sizes.now a.rows.now a.excitation.now a.decoded.now a.state.now a.summary.now) in
    let all = call-refused a.voice.now a.sheet.now a.settings h (omega (arith, c.if-state-lt168.false)) (omega (arith, c.if-summary-lt48.false)) _ _ _ _ c.plan_checked-planned.ensures.value c.plan_checked-planned.ensures.decoded_after c.in-Err.is c.from-in-Err.ensures in
    record { value = all.0; summary_after = all.1 }

pub returns-in-Ok : goal.returns-in-Ok
returns-in-Ok c =
    let a = c.args in
    let h = (handed a.index.now a.marks.now a.sizes.now a.rows.now a.excitation.now a.decoded.now a.state.now a.summary.now) in
    let all = call-spoken a.voice.now a.sheet.now a.settings h (omega (arith, c.if-state-lt168.false)) (omega (arith, c.if-summary-lt48.false)) _ _ _ _ _ c.plan_checked-planned.ensures.value c.plan_checked-planned.ensures.decoded_after c.in-Ok.is c.store.ensures c.write_summary.ensures in
    record { value = all.0; summary_after = all.1 }
