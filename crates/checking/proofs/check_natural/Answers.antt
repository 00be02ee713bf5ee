use borrow.Author.Tests.{ltb-true, ltb-false}
use mathlib.Core.Path.{◌≡◌, sym, subst, ◌∙◌}
use native.Mathlib.Omega.{arith}
use Rattle.base.proofs.ResultLaws.{failed}
use Rattle.units.specs.Walking.{many_left}
use Rattle.units.proofs.StepLaws.{left-none}
use Rattle.marks.specs.Checking.{LowPlace}
use Rattle.checking.specs.Joining.{Joins}
use Rattle.checking.proofs.NaturalLaws.{going-first, going-refused, going_on, going_done}
use Rattle.checking.proofs.check_natural.Goals as goal

pub sample-sampled-requires : goal.sample-sampled-requires
sample-sampled-requires c = c.requires.1

pub first_unit-walk-requires : goal.first_unit-walk-requires
first_unit-walk-requires c = c.requires.1

pub loop-by-init : goal.loop-by-init
loop-by-init c = let s = c.first_unit-walk.ensures in (s.walking _, going-first _ _ _ (s.units _ _))

pub next_unit-step-requires : goal.next_unit-step-requires
next_unit-step-requires c =
    (c.requires.0, (c.requires.1.0, (c.sample-sampled.ensures, (c.loop-by.invariant.0, ltb-true 0 _ (sym c.has_unit.ensures ∙ c.loop-by-test.true)))))

pub check_unit_marks-requires : goal.check_unit_marks-requires
check_unit_marks-requires c =
    (c.requires.0.opened, c.next_unit-step.ensures.inside.within, c.loop-by.invariant.1.low)

pub returns-in_err-end : goal.returns-in_err-end
returns-in_err-end c =
    let l = c.loop-by in
    let s = c.next_unit-step in
    subst (Joins _) (sym (failed _ c.from_residual.ensures))
    (going-refused _ _ _ _ _ _ _ s.ensures.units l.invariant.1 _ (sym c.check_unit_marks.ensures.0 ∙ c.in_err-end.was))

pub loop-by-smaller : goal.loop-by-smaller
loop-by-smaller c = let e = c.next_unit-step.ensures.fewer in omega (arith, e)

pub loop-by-preserved : goal.loop-by-preserved
loop-by-preserved c =
    let l = c.loop-by in
    let s = c.next_unit-step in
    let m = c.check_unit_marks in
    let e = c.in_ok-end.was in
    (s.ensures.walking, going_on _ _ _ _ _ _ _ s.ensures.units l.invariant.1 _ _ (sym m.ensures.0 ∙ e) (subst LowPlace e m.ensures.1))

pub overflow_sub-count : goal.overflow_sub-count
overflow_sub-count c = c.loop-by.invariant.1.few

pub returns : goal.returns
returns c =
    let l = c.loop-by in
    let n : many_left l.walk ≡ 0 = let h = ltb-false 0 (many_left l.walk) (sym c.has_unit.ensures ∙ c.loop-by-test.false) in omega arith in
    going_done _ _ _ _ _ (left-none _ _ _ _ l.walk n) l.invariant.1
