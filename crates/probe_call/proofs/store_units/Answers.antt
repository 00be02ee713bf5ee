use Rattle.base.proofs.CaseLaws.{by_order}
use native.Mathlib.Omega.{arith}
use mathlib.Core.Path.{refl, sym, ◌∙◌}
use borrow.Author.Tests.{ltb-true}
use Rattle.probe_call.proofs.store_units.Goals as goal

pub sample-sampled-requires : goal.sample-sampled-requires
sample-sampled-requires c = (c.requires.1, by_order 0 _ (λ h. h) (λ h. absurd (c.if-segments-eq0.false (omega (arith, h)))))

pub first_unit-walk-requires : goal.first_unit-walk-requires
first_unit-walk-requires c = (c.requires.1, by_order 0 _ (λ h. h) (λ h. absurd (c.if-segments-eq0.false (omega (arith, h)))))

pub loop-by-init : goal.loop-by-init
loop-by-init c = (c.first_unit-walk.ensures.walking _, (refl, omega arith))

pub shape_of-out-then-out-n : goal.shape_of-out-then-out-n
shape_of-out-then-out-n c = c.loop-by.invariant.1.0

pub next_unit-step-requires : goal.next_unit-step-requires
next_unit-step-requires c =
    (c.requires.0, (c.requires.1, (c.sample-sampled.ensures, (c.loop-by.invariant.0, ltb-true 0 _ (sym c.has_unit.ensures ∙ c.loop-by-test.true)))))

pub put_unit-requires : goal.put_unit-requires
put_unit-requires c = let l = c.loop-by.invariant.1 in omega (arith, l.0, l.1, c.if-out-n.false)

pub overflow_add-n : goal.overflow_add-n
overflow_add-n c = let l = c.loop-by.invariant.1 in omega (arith, l.0, l.1, c.if-out-n.false, c.well_formed.1.1.1.1.0.0)

pub loop-by-smaller : goal.loop-by-smaller
loop-by-smaller c = let e = c.next_unit-step.ensures.fewer in omega (arith, e)

pub loop-by-preserved : goal.loop-by-preserved
loop-by-preserved c = let l = c.loop-by.invariant.1 in (c.next_unit-step.ensures.walking, (c.put_unit.ensures ∙ l.0, omega (arith, l.0, l.1, c.if-out-n.false)))

pub overflow_mul-result : goal.overflow_mul-result
overflow_mul-result c = let l = c.loop-by.invariant.1 in omega (arith, l.1, c.well_formed.1.1.1.1.0.0)

pub shape_of-out : goal.shape_of-out
shape_of-out c = c.loop-by.invariant.1.0
