use Rattle.index.proofs.ShuffleLaws.{shuffled-self, shuffled-then, shuffled-long}
use native.Mathlib.Omega.{arith}
use Rattle.index.proofs.sink_place.Goals as goal

pub loop-at-init : goal.loop-at-init
loop-at-init c = c.requires.0

pub later_place-child-requires : goal.later_place-child-requires
later_place-child-requires c = (shuffled-self _ _ _ _ _ c.loop-at.invariant, (omega arith, c.requires.1))

pub places_ascend-requires : goal.places_ascend-requires
places_ascend-requires c = (shuffled-self _ _ _ _ _ c.loop-at.invariant, (omega arith, omega arith))

pub exchange_places-requires : goal.exchange_places-requires
exchange_places-requires c = (shuffled-self _ _ _ _ _ c.loop-at.invariant, (omega arith, omega arith))

pub loop-at-preserved : goal.loop-at-preserved
loop-at-preserved c =
    shuffled-then _ _ _ _ _ c.loop-at.invariant _ c.exchange_places.ensures

pub shape_of-index-then-not-places_ascend : goal.shape_of-index-then-not-places_ascend
shape_of-index-then-not-places_ascend c = shuffled-long _ _ _ _ _ c.loop-at.invariant

pub returns-then-not-places_ascend : goal.returns-then-not-places_ascend
returns-then-not-places_ascend c = c.loop-at.invariant

pub shape_of-index : goal.shape_of-index
shape_of-index c = shuffled-long _ _ _ _ _ c.loop-at.invariant

pub returns : goal.returns
returns c = c.loop-at.invariant
