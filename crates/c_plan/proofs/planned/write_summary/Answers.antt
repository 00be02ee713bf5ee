use Rattle.c_plan.specs.Reports.{summary_bytes}
use Rattle.c_plan.proofs.planned.write_summary.Goals as goal

pub returns : goal.returns
unfolding summary_bytes
returns c = c.write_six.ensures
