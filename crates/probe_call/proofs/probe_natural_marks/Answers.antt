use mathlib.Core.Path.{refl, sym, ◌∙◌}
use Rattle.opening.proofs.IndexLaws.{open-answer}
use Rattle.probe_call.proofs.probe_natural_marks.Goals as goal

pub store_natural_marks-requires : goal.store_natural_marks-requires
store_natural_marks-requires c = ((open-answer c.args.file.now _ (sym c.check.ensures ∙ c.in-Ok.is), refl), sym c.read_sheet.ensures.0 ∙ c.in-Ok-read_sheet.is)
