use mathlib.Core.Path.{sym, ◌∙◌}
use Rattle.opening.proofs.IndexLaws.{open-answer}
use Rattle.probe_call.proofs.periods.probe_residual.Goals as goal

pub residual_of-requires : goal.residual_of-requires
residual_of-requires c = open-answer c.args.file.now _ (sym c.check.ensures ∙ c.in-Ok.is)
