use Rattle.index.proofs.StoreLaws.{storing-start, storing-turn, storing-more, storing-end}
use native.Mathlib.Omega.{arith}
use Rattle.index.proofs.store_places.Goals as goal

pub loop-i-init : goal.loop-i-init
loop-i-init c = storing-start _ _ _ _ c.requires

pub overflow_add-base : goal.overflow_add-base
overflow_add-base c =
    let t = storing-turn _ _ _ _ _ _ _ c.loop-i.invariant (omega arith) in
    omega (arith, t.fits, c.requires.within)

pub put_u64-requires : goal.put_u64-requires
put_u64-requires c = omega (arith, c.loop-i.invariant.long, c.requires.room)

pub next_entry-at-requires : goal.next_entry-at-requires
next_entry-at-requires c = (storing-turn _ _ _ _ _ _ _ c.loop-i.invariant (omega arith)).fits

pub loop-i-preserved : goal.loop-i-preserved
loop-i-preserved c =
    let l = c.loop-i in
    rw c.put_u64.ensures (storing-more _ _ _ _ _ _ _ l.invariant (omega arith) _ c.next_entry-at.ensures.0)

pub shape_of-index : goal.shape_of-index
shape_of-index c = c.loop-i.invariant.long

pub returns : goal.returns
returns c = storing-end _ _ _ _ _ _ _ c.loop-i.invariant (omega arith)
