use Rattle.index.proofs.ShuffleLaws.{shuffled-told, shuffled-anew}
use Rattle.index.proofs.fill_index.Goals as goal

pub returns-else-not-order_places : goal.returns-else-not-order_places
returns-else-not-order_places c =
    shuffled-told _ _ _ _ _ c.order_places.ensures.0 _ c.order_places.ensures.1 c.if-not-order_places.false

pub returns-then-not-order_places : goal.returns-then-not-order_places
returns-then-not-order_places c =
    shuffled-anew _ _ _ _ _ c.order_places.ensures.0 _ c.insert_places.ensures
