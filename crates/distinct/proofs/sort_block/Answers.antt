use Rattle.index.proofs.ShuffleLaws.{shuffled-self, shuffled-able, filled-self}
use Rattle.distinct.proofs.NeighbourLaws.{sorts-not, sorts-ordered, sorts-filled}
use Rattle.distinct.proofs.sort_block.Goals as goal

pub returns-then-order_places : goal.returns-then-order_places
returns-then-order_places c =
    sorts-ordered _ _ _ _ c.order_places.ensures.0 _ c.order_places.ensures.1 c.if-order_places.true

pub neighbours_agree-requires : goal.neighbours_agree-requires
neighbours_agree-requires c = shuffled-self _ _ _ _ _ c.order_places.ensures.0

pub returns-then-neighbours_agree : goal.returns-then-neighbours_agree
returns-then-neighbours_agree c = sorts-not _ _ _ (c.neighbours_agree.ensures c.if-neighbours_agree.true)

pub is_ordered-requires : goal.is_ordered-requires
is_ordered-requires c =
    filled-self _ _ _ _ _ (shuffled-able _ _ _ _ _ c.order_places.ensures.0) c.insert_places.ensures

pub returns : goal.returns
returns c =
    sorts-filled _ _ _ _ c.order_places.ensures.0 _ c.insert_places.ensures _ c.is_ordered.ensures
