use mathlib.Core.Path.{ap, ◌∙◌}
use lib.ListN.{length}
use lib.Seq.{length-sets}
use native.Mathlib.Omega.{arith}
use Rattle.sparse.proofs.SparseLaws.{stride-some, spaced-first, spaced-step, spaced-room, spaced-more, spaced-end}
use Rattle.sparse.proofs.fill.Goals as goal

pub loop-left-init : goal.loop-left-init
loop-left-init c =
    spaced-first _ _ _ _ _ c.put_u64.ensures c.requires.1.1.0 c.requires.1.1.1 c.requires.0.0 c.requires.1.0

pub entry_after-at-requires : goal.entry_after-at-requires
entry_after-at-requires c = spaced-step _ _ _ _ _ _ _ _ c.loop-left.invariant (omega arith)

pub overflow_add-last : goal.overflow_add-last
overflow_add-last c = omega (arith, c.loop-left.invariant.room)

pub put_u64-requires-in-loop-left : goal.put_u64-requires-in-loop-left
put_u64-requires-in-loop-left c = spaced-room _ _ _ _ _ _ _ _ c.loop-left.invariant (omega arith)

pub loop-left-smaller : goal.loop-left-smaller
loop-left-smaller c =
    let p = c.requires.1 in
    omega (arith, stride-some _ _ _ p.0 p.1.1)

pub loop-left-preserved : goal.loop-left-preserved
loop-left-preserved c =
    let l = c.loop-left in
    rw c.put_u64-in-loop-left.ensures (spaced-more _ _ _ _ _ _ _ _ l.invariant (omega arith) _ c.entry_after-at.ensures.0 (omega (arith, c.entry_after-at.ensures.1)))

pub overflow_add-result : goal.overflow_add-result
overflow_add-result c = omega (arith, c.loop-left.invariant.room)

pub shape_of-index : goal.shape_of-index
shape_of-index c = c.loop-left.invariant.long ∙ ap length c.put_u64.ensures ∙ simp length-sets

pub returns : goal.returns
returns c = spaced-end _ _ _ _ _ _ _ _ c.loop-left.invariant c.requires.0.1
