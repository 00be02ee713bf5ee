use mathlib.Core.Path.{sym, ◌∙◌}
use Rattle.opening.proofs.IndexLaws.{open-answer}
use Rattle.probe_call.proofs.periods.probe_row.Goals as goal

pub row_of-requires : goal.row_of-requires
row_of-requires c = open-answer c.args.file.now _ (sym c.check.ensures ∙ c.in-Ok.is)
