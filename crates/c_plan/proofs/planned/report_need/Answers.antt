use mathlib.Core.Path.{refl}
use native.Mathlib.Omega.{arith}
use lib.ListN.{length}
use Rattle.c_plan.specs.Reports.{need_bytes}
use Rattle.c_plan.proofs.PlannedLaws.{report-short, report-long}
use Rattle.c_plan.proofs.planned.report_need.Goals as goal

pub returns-then-report-lt48 : goal.returns-then-report-lt48
returns-then-report-lt48 c = let e = report-short (length c.args.report.now) (omega (arith, c.if-report-lt48.true)) in rw e (c.from.ensures, refl)

pub returns : goal.returns
unfolding need_bytes
returns c = let e = report-long (length c.args.report.now) (omega (arith, c.if-report-lt48.false)) in rw e (refl, c.write_six.ensures)
