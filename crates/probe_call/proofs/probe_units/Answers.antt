use Rattle.opening.proofs.IndexLaws.{open-answer}
use mathlib.Core.Path.{sym, ◌∙◌}
use Rattle.probe_call.proofs.probe_units.Goals as goal

pub units_of-requires : goal.units_of-requires
units_of-requires c = (open-answer c.args.file.now _ (sym c.check.ensures ∙ c.in-Ok.is), sym c.read_sheet.ensures.0 ∙ c.in-Ok-read_sheet.is)
