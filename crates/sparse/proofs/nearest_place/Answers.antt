use mathlib.Core.Path.{sym, ap, ◌∙◌}
use native.Mathlib.Omega.{arith}
use Rattle.text.specs.Names.{before}
use Rattle.sparse.proofs.SparseLaws.{begins-turn, from_first, passed_over}
use Rattle.sparse.proofs.nearest_place.Goals as goal

pub loop-hi-init : goal.loop-hi-init
loop-hi-init c =
    (c.requires.some, (omega arith, from_first c.args.by.stride c.args.name.now _))

pub overflow_sub-hi : goal.overflow_sub-hi
overflow_sub-hi c = omega (arith, c.loop-hi.invariant.0)

pub place_at-at-requires : goal.place_at-at-requires
place_at-at-requires c =
    let i = c.loop-hi.invariant in
    (c.requires, omega arith)

pub name_at-requires : goal.name_at-requires
name_at-requires c = begins-turn _ _ _ _ c.place_at-at.ensures

pub loop-hi-preserved-then-name_before : goal.loop-hi-preserved-then-name_before
loop-hi-preserved-then-name_before c =
    let i = c.loop-hi.invariant in
    (omega arith, (omega arith, i.1.1))

pub loop-hi-preserved : goal.loop-hi-preserved
loop-hi-preserved c =
    let i = c.loop-hi.invariant in
    let t = ap (before c.args.name.now) (sym c.name_at.ensures) ∙ sym c.name_before.ensures ∙ c.if-name_before.false in
    (omega arith, (i.1.0, passed_over _ _ _ _ _ c.requires.order c.place_at-at.ensures t))

pub returns : goal.returns
returns c =
    let i = c.loop-hi.invariant in
    (omega arith, i.1.1)
