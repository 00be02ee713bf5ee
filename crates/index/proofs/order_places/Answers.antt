use mathlib.Core.Path.{sym, ◌∙◌}
use Rattle.index.proofs.ShuffleLaws.{shuffled-self, shuffled-then, shuffled-stored, stored-self}
use Rattle.index.proofs.order_places.Goals as goal

pub is_ordered-requires : goal.is_ordered-requires
is_ordered-requires c =
    stored-self _ _ _ _ _ c.requires c.store_places.ensures

pub returns-then-is_ordered : goal.returns-then-is_ordered
returns-then-is_ordered c =
    (shuffled-stored _ _ _ _ _ c.requires c.store_places.ensures, λ s. sym c.if-is_ordered.true ∙ c.is_ordered.ensures s)

pub heap_places-requires : goal.heap_places-requires
heap_places-requires c =
    stored-self _ _ _ _ _ c.requires c.store_places.ensures

pub is_ordered-requires-2 : goal.is_ordered-requires-2
is_ordered-requires-2 c = shuffled-self _ _ _ _ _ c.heap_places.ensures

pub returns : goal.returns
returns c =
    let o = shuffled-stored _ _ _ _ _ c.requires c.store_places.ensures in
    (shuffled-then _ _ _ _ _ o _ c.heap_places.ensures, c.is_ordered-2.ensures)
