use mathlib.Core.Path.{sym, ◌∙◌}
use Rattle.index.proofs.InsertLaws.{moving-start, moving-length, moving-end, moving-next}
use native.Mathlib.Omega.{arith}
use Rattle.index.proofs.insert_place.Goals as goal

pub u64_at-place-requires : goal.u64_at-place-requires
u64_at-place-requires c = omega (arith, c.requires.0.room)

pub loop-j-init : goal.loop-j-init
loop-j-init c = moving-start _ _ _ _ _ _ c.requires.0 c.requires.1.0 c.requires.1.1 c.u64_at-place.ensures

pub u64_at-next-requires : goal.u64_at-next-requires
u64_at-next-requires c =
    omega (arith, c.requires.0.room, moving-length c.requires.0.room c.requires.0.within c.loop-j.invariant)

pub overflow_sub-place : goal.overflow_sub-place
overflow_sub-place c =
    (moving-next c.requires.0.room c.requires.0.within c.loop-j.invariant (omega arith) _ c.u64_at-next.ensures).low

pub overflow_sub-next : goal.overflow_sub-next
overflow_sub-next c =
    (moving-next c.requires.0.room c.requires.0.within c.loop-j.invariant (omega arith) _ c.u64_at-next.ensures).low-next

pub stands_before-requires : goal.stands_before-requires
stands_before-requires c =
    let a = moving-next c.requires.0.room c.requires.0.within c.loop-j.invariant (omega arith) _ c.u64_at-next.ensures in
    (a.fits, a.fits_next)

pub put_u64-requires : goal.put_u64-requires
put_u64-requires c =
    omega (arith, c.requires.0.room, moving-length c.requires.0.room c.requires.0.within c.loop-j.invariant)

pub shape_of-index-then-stands_before : goal.shape_of-index-then-stands_before
shape_of-index-then-stands_before c =
    omega (arith, moving-length c.requires.0.room c.requires.0.within c.loop-j.invariant)

pub returns-then-stands_before : goal.returns-then-stands_before
returns-then-stands_before c =
    let a = moving-next c.requires.0.room c.requires.0.within c.loop-j.invariant (omega arith) _ c.u64_at-next.ensures in
    c.put_u64.ensures ∙ a.stop (sym c.stands_before.ensures ∙ c.if-stands_before.true)

pub put_u64-requires-in-loop-j : goal.put_u64-requires-in-loop-j
put_u64-requires-in-loop-j c =
    omega (arith, c.requires.0.room, moving-length c.requires.0.room c.requires.0.within c.loop-j.invariant)

pub loop-j-preserved : goal.loop-j-preserved
loop-j-preserved c =
    let a = moving-next c.requires.0.room c.requires.0.within c.loop-j.invariant (omega arith) _ c.u64_at-next.ensures in
    rw c.put_u64-in-loop-j.ensures (a.shift (sym c.stands_before.ensures ∙ c.if-stands_before.false))

pub put_u64-requires-2 : goal.put_u64-requires-2
put_u64-requires-2 c =
    omega (arith, c.requires.0.room, moving-length c.requires.0.room c.requires.0.within c.loop-j.invariant)

pub shape_of-index : goal.shape_of-index
shape_of-index c = omega (arith, moving-length c.requires.0.room c.requires.0.within c.loop-j.invariant)

pub returns : goal.returns
returns c = c.put_u64-2.ensures ∙ moving-end c.requires.0.room c.requires.0.within c.loop-j.invariant (omega arith)
