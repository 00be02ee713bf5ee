use Rattle.index.proofs.ShuffleLaws.{shuffled-self, shuffled-then, shuffled-long}
use native.Mathlib.Omega.{arith}
use Rattle.index.proofs.empty_heap.Goals as goal

pub loop-end-init : goal.loop-end-init
loop-end-init c = (omega arith, c.requires)

pub exchange_places-requires : goal.exchange_places-requires
exchange_places-requires c = (shuffled-self _ _ _ _ _ c.loop-end.invariant.1, (omega arith, omega arith))

pub sink_place-requires : goal.sink_place-requires
sink_place-requires c =
    (shuffled-self _ _ _ _ _ c.exchange_places.ensures, omega arith)

pub loop-end-preserved : goal.loop-end-preserved
loop-end-preserved c =
    let l = c.loop-end in
    (omega arith, shuffled-then _ _ _ _ _ l.invariant.1 _ (shuffled-then _ _ _ _ _ c.exchange_places.ensures _ c.sink_place.ensures))

pub shape_of-index : goal.shape_of-index
shape_of-index c = shuffled-long _ _ _ _ _ c.loop-end.invariant.1

pub returns : goal.returns
returns c = c.loop-end.invariant.1
