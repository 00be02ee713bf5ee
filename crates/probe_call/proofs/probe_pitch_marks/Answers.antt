use mathlib.Core.Path.{sym, ◌∙◌}
use Rattle.probe_call.proofs.probe_pitch_marks.Goals as goal

pub store_pitch_marks-requires : goal.store_pitch_marks-requires
store_pitch_marks-requires c = sym c.read_sheet.ensures.0 ∙ c.in-Ok.is
