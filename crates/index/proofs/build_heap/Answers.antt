use Rattle.index.proofs.ShuffleLaws.{shuffled-self, shuffled-then, shuffled-long}
use native.Mathlib.Omega.{arith}
use Rattle.index.proofs.build_heap.Goals as goal

pub loop-i-init : goal.loop-i-init
loop-i-init c = c.requires

pub sink_place-requires : goal.sink_place-requires
sink_place-requires c = (shuffled-self _ _ _ _ _ c.loop-i.invariant, omega arith)

pub loop-i-preserved : goal.loop-i-preserved
loop-i-preserved c =
    shuffled-then _ _ _ _ _ c.loop-i.invariant _ c.sink_place.ensures

pub shape_of-index : goal.shape_of-index
shape_of-index c = shuffled-long _ _ _ _ _ c.loop-i.invariant

pub returns : goal.returns
returns c = c.loop-i.invariant
