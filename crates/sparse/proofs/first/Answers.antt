use mathlib.Core.Path.{ap, ◌∙◌}
use native.Mathlib.Nat.{mul-zero}
use Rattle.index.specs.Index.{periods_of}
use Rattle.sparse.proofs.SparseLaws.{begins-turn, first-is}
use Rattle.sparse.proofs.first.Goals as goal

pub periods_at-requires : goal.periods_at-requires
periods_at-requires c = begins-turn _ _ _ _ c.place_at.ensures

pub returns : goal.returns
returns c =
    let s = c.requires in
    (c.periods_at.ensures.0 ∙ ap periods_of (first-is _ _ _ _ s.order (mul-zero _) c.place_at.ensures), c.periods_at.ensures.1)
