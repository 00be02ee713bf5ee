use mathlib.Core.Path.{◌≡◌, refl, ◌∙◌}
use Rattle.call.specs.Numbers.{join_of, filter_of, settings_of}
use Rattle.transcript.specs.Program.{program_settings}
use Rattle.transcript.proofs.program_settings.Goals as goal

said : settings_of 5 ≡ program_settings
unfolding settings_of join_of filter_of
said = refl

pub returns : goal.returns
returns c = c.settings_of.ensures ∙ said
