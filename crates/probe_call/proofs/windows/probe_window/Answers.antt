use mathlib.Core.Path.{sym, ◌∙◌}
use Rattle.opening.proofs.IndexLaws.{open-answer}
use Rattle.probe_call.proofs.windows.probe_window.Goals as goal

pub window_of-requires : goal.window_of-requires
window_of-requires c = open-answer c.args.file.now _ (sym c.check.ensures ∙ c.in-Ok.is)
