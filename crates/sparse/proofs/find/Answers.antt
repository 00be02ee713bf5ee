use mathlib.Core.Path.{ap, ◌∙◌}
use Rattle.voice.specs.Voice.{lookup}
use Rattle.index.specs.Index.{found_of}
use Rattle.sparse.proofs.SparseLaws.{begins-order}
use Rattle.sparse.proofs.find.Goals as goal

pub find_from-requires : goal.find_from-requires
find_from-requires c =
    let b = c.place_at-at.ensures in
    (b.whole, begins-order _ _ _ _ b c.requires.order)

pub returns : goal.returns
returns c =
    c.find_from.ensures ∙ ap found_of (ap (lookup _) c.place_at-at.ensures.list ∙ c.nearest_place-j.ensures.1)
