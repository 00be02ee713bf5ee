-- The lines of the report, or the refusal.
use Rattle.std.proofs.Common.{sym, ◌∙◌}
use Rattle.transcript.specs.Program.{within_limits}
use Rattle.report.specs.ReportText.{text_of, report_text}
use Rattle.report.proofs.HandedLaws.{spoken-none, refused-some}
use Rattle.report.proofs.put_text.Goals as goal

pub returns-then-is_too_long-clause-puts : goal.returns-then-is_too_long-clause-puts
unfolding text_of within_limits
returns-then-is_too_long-clause-puts c =
    let e = sym c.is_too_long.ensures ∙ c.if-is_too_long.true in
    rw e (rw c.from.ensures at c.put_refused.ensures.puts)

pub put_report-requires : goal.put_report-requires
put_report-requires c = (spoken-none _ _ _ c.called.ensures c.in-Ok.is, c.requires)

pub returns-in-Ok-clause-puts : goal.returns-in-Ok-clause-puts
unfolding text_of within_limits report_text
returns-in-Ok-clause-puts c =
    let e = sym c.is_too_long.ensures ∙ c.if-is_too_long.false in
    let u = spoken-none _ _ _ c.called.ensures c.in-Ok.is in
    rw (e, u) c.put_report.ensures.puts

pub returns-in-Err-clause-puts : goal.returns-in-Err-clause-puts
unfolding text_of within_limits report_text
returns-in-Err-clause-puts c =
    let e = sym c.is_too_long.ensures ∙ c.if-is_too_long.false in
    let u = refused-some _ _ _ c.called.ensures c.in-Err.is in
    rw (e, u) (rw c.from-in-Err.ensures at c.put_refused-in-Err.ensures.puts)
