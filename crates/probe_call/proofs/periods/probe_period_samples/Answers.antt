use mathlib.Core.Path.{sym, ◌∙◌}
use Rattle.opening.proofs.IndexLaws.{open-answer}
use Rattle.probe_call.proofs.periods.probe_period_samples.Goals as goal

pub samples_of-requires : goal.samples_of-requires
samples_of-requires c = open-answer c.args.file.now _ (sym c.check.ensures ∙ c.in-Ok.is)
