use mathlib.Core.Path.{◌∙◌}
use native.Mathlib.Omega.{arith}
use Rattle.base.proofs.ResultLaws.{failed}
use Rattle.checking.proofs.CheckLaws.{checked_refused, checked-passed}
use Rattle.reporting.proofs.JoinLaws.{counted}
use Rattle.reporting.proofs.AnswerLaws.{report-refused, report-short, report-made}
use Rattle.reporting.proofs.report_in.Goals as goal

pub returns-then-lines-need : goal.returns-then-lines-need
returns-then-lines-need c =
    let a = c.args in
    let p = checked-passed a.voice.now a.sheet.now a.settings _ c.check_in.ensures _
    c.in_ok-fit.was in
    let all = report-short a.voice.now a.sheet.now a.settings a.lines.now p.passed _ (counted a.voice.now a.sheet.now a.settings _ p) c.if-lines-need.true in record { value = all.0; lines_after = all.1 }

pub report_checked-requires : goal.report_checked-requires
report_checked-requires c = (
  checked-passed c.args.voice.now c.args.sheet.now c.args.settings _ c.check_in.ensures _ c.in_ok-fit.was,
  (omega (arith, c.if-lines-need.false), omega (arith, c.requires, c.check_in.auto.index)),
)

pub returns-in_err-fit : goal.returns-in_err-fit
returns-in_err-fit c =
    let a = c.args in
    let all = report-refused a.voice.now a.sheet.now a.settings a.lines.now _
    (checked_refused a.voice.now a.sheet.now a.settings _ c.check_in.ensures _ c.in_err-fit.was) in
    record { value = failed _ c.from_residual.ensures ∙ all.0; lines_after = all.1 }

pub returns : goal.returns
returns c =
    let a = c.args in
    let p = checked-passed a.voice.now a.sheet.now a.settings _
    c.check_in.ensures _
    c.in_ok-fit.was in
    let all = report-made a.voice.now a.sheet.now a.settings a.lines.now p.passed _ (counted a.voice.now a.sheet.now a.settings _ p)
    c.if-lines-need.false _ c.report_checked.ensures in
    record { value = all.0; lines_after = all.1 }
