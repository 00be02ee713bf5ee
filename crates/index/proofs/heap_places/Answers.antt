use Rattle.index.proofs.ShuffleLaws.{shuffled-self, shuffled-then}
use Rattle.index.proofs.heap_places.Goals as goal

pub empty_heap-requires : goal.empty_heap-requires
empty_heap-requires c = shuffled-self _ _ _ _ _ c.build_heap.ensures

pub returns : goal.returns
returns c =
    shuffled-then _ _ _ _ _ c.build_heap.ensures _ c.empty_heap.ensures
