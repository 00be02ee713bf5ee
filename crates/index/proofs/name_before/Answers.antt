use mathlib.Core.Path.{◌∙◌}
use Rattle.index.proofs.OrderLaws.{before-told}
use Rattle.index.proofs.name_before.Goals as goal

pub returns : goal.returns
returns c = c.eq.ensures ∙ before-told _ _ _ c.compare.ensures
