use Rattle.index.proofs.InsertLaws.{sorting_start, sorting-long, sorting-asks, sorting-more, sorting-end}
use native.Mathlib.Omega.{arith}
use Rattle.index.proofs.sort_places.Goals as goal

pub loop-i-init : goal.loop-i-init
loop-i-init c = sorting_start _ _ _ _ c.requires.0 c.requires.1

pub insert_place-requires : goal.insert_place-requires
insert_place-requires c = sorting-asks _ _ _ _ c.requires.0 _ _ c.loop-i.invariant (omega arith)

pub loop-i-preserved : goal.loop-i-preserved
loop-i-preserved c = sorting-more _ _ _ _ c.requires.0 _ _ c.loop-i.invariant (omega arith) _ c.insert_place.ensures

pub shape_of-index : goal.shape_of-index
shape_of-index c = sorting-long _ _ _ _ c.requires.0 _ _ c.loop-i.invariant

pub returns : goal.returns
returns c = sorting-end _ _ _ _ c.requires.0 _ _ c.loop-i.invariant (omega arith)
