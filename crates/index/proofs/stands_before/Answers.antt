use mathlib.Core.Path.{◌∙◌}
use Rattle.index.proofs.stands_before.Goals as goal

pub returns : goal.returns
returns c = c.name_before.ensures ∙ rw (c.name_at.ensures, c.name_at-2.ensures)
