use mathlib.Core.Path.{ap, ◌∙◌}
use Rattle.index.specs.Index.{periods_of}
use Rattle.search.proofs.first_sorted.Goals as goal

pub returns : goal.returns
returns c = (c.periods_at.ensures.0 ∙ ap periods_of c.sorted_place.ensures.0, c.periods_at.ensures.1)
