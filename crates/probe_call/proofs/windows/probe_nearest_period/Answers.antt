use mathlib.Core.Path.{sym, ◌∙◌}
use Rattle.opening.proofs.IndexLaws.{open-answer}
use Rattle.probe_call.proofs.windows.probe_nearest_period.Goals as goal

pub nearest_of-requires : goal.nearest_of-requires
nearest_of-requires c = open-answer c.args.file.now _ (sym c.check.ensures ∙ c.in-Ok.is)
