-- The call is made as the first program makes it.
use Rattle.report.proofs.HandedLaws.{answer-is}
use Rattle.report.proofs.called.Goals as goal

pub returns : goal.returns
returns c = answer-is _ _ _ _ c.program_settings.ensures c.plan-planned.ensures.0
