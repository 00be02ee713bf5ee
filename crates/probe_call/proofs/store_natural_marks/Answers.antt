use native.Mathlib.Omega.{arith}
use mathlib.Core.Path.{refl, sym, subst, ◌∙◌}
use borrow.Author.Tests.{ltb-true}
use Rattle.base.proofs.CaseLaws.{by_order}
use Rattle.units.proofs.AskedLaws.{holds-nothing}
use Rattle.probe_call.specs.Natural.{Goes}
use Rattle.probe_call.proofs.store_natural_marks.Goals as goal

pub sample-sampled-requires : goal.sample-sampled-requires
sample-sampled-requires c = (c.requires.1, by_order 0 _ (λ h. h) (λ h. absurd (c.if-segments-eq0.false (omega (arith, h)))))

pub first_unit-walk-requires : goal.first_unit-walk-requires
first_unit-walk-requires c = (c.requires.1, by_order 0 _ (λ h. h) (λ h. absurd (c.if-segments-eq0.false (omega (arith, h)))))

pub loop-by-init : goal.loop-by-init
loop-by-init c = (c.first_unit-walk.ensures.walking _, (refl, (omega arith, omega arith)))

pub next_unit-step-requires : goal.next_unit-step-requires
next_unit-step-requires c =
    (record { opened = c.requires.0.0; holds = holds-nothing _ _ _ _ c.requires.0.1 }, (c.requires.1, (c.sample-sampled.ensures, (c.loop-by.invariant.0, ltb-true 0 _ (sym c.has_unit.ensures ∙ c.loop-by-test.true)))))

pub store_natural-requires : goal.store_natural-requires
store_natural-requires c = (c.requires.0.0, (c.next_unit-step.ensures.inside, c.loop-by.invariant.1.1))

pub shape_of-marks-in-Err : goal.shape_of-marks-in-Err
shape_of-marks-in-Err c = c.store_natural.ensures.0 ∙ c.loop-by.invariant.1.0

pub loop-by-smaller : goal.loop-by-smaller
loop-by-smaller c = let e = c.next_unit-step.ensures.fewer in omega (arith, e)

pub loop-by-preserved : goal.loop-by-preserved
loop-by-preserved c =
    let l = c.loop-by in
    let g = subst (Goes l.left) c.in-Ok.is c.store_natural.ensures.1 in
    (c.next_unit-step.ensures.walking, (c.store_natural.ensures.0 ∙ l.invariant.1.0, (g.0, omega (arith, g.1, l.invariant.1.1.1))))

pub overflow_sub-result : goal.overflow_sub-result
overflow_sub-result c = c.loop-by.invariant.1.1.1

pub shape_of-marks : goal.shape_of-marks
shape_of-marks c = c.loop-by.invariant.1.0
