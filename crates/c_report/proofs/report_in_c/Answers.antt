use Rattle.c_report.proofs.ReportLaws.{report-refused, report-made}
use Rattle.c_report.proofs.report_in_c.Goals as goal

pub returns-in-Err : goal.returns-in-Err
returns-in-Err c =
    let a = c.args in
    let all = report-refused a.voice.now a.sheet.now _ _ c.settings_of.ensures a.lines.now _ c.report.ensures.value _ c.report.ensures.lines_after _
    c.in-Err.is _ c.from.ensures in
    record { value = all.0; lines_after = all.1 }

pub returns-in-Ok : goal.returns-in-Ok
returns-in-Ok c =
    let a = c.args in
    let all = report-made a.voice.now a.sheet.now _ _ c.settings_of.ensures a.lines.now _ c.report.ensures.value _ c.report.ensures.lines_after _
    c.in-Ok.is in
    record { value = all.0; lines_after = all.1 }
