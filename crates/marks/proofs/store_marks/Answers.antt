use Rattle.base.proofs.ResultLaws.{holding}
use Rattle.std.proofs.Common.{refl, ◌∙◌, subst, arith}
use Rattle.marks.specs.Walking.{IsNext}
use Rattle.marks.proofs.WalkLaws.{came}
use Rattle.marks.proofs.StoreLaws.{storing-first, storing-refused, storing-done, storing-all, storing-room, storing-mark}
use Rattle.marks.proofs.store_marks.Goals as goal

pub loop-i-init : goal.loop-i-init
loop-i-init c = (storing-first _ _ _ _ _ _ c.requires c.fresh-walk.ensures, refl)

pub next-requires : goal.next-requires
next-requires c = c.loop-i.invariant.0.ahead

pub shape_of-marks-in-Err : goal.shape_of-marks-in-Err
shape_of-marks-in-Err c = c.loop-i.invariant.1

pub returns-in-Err : goal.returns-in-Err
returns-in-Err c = absurd (storing-refused _ _ _ _ _ _ c.loop-i.invariant.0 _ (subst (IsNext c.args.sheet.now c.loop-i.walk) c.in-Err.is c.next.ensures))

pub shape_of-marks-in-Ok-None : goal.shape_of-marks-in-Ok-None
shape_of-marks-in-Ok-None c = c.loop-i.invariant.1

pub returns-in-Ok-None : goal.returns-in-Ok-None
returns-in-Ok-None c =
    storing-done _ _ _ _ _ _ c.loop-i.invariant.0 (subst (IsNext c.args.sheet.now c.loop-i.walk) (holding c.in-Ok-None.is c.in-Ok-None.field-0-is) c.next.ensures)

pub overflow_cast-m : goal.overflow_cast-m
overflow_cast-m c = let s = came c.next.ensures c.in-Ok-Some.is c.in-Ok-Some.field-0-is in omega (arith, s.low)

pub put_u32-requires : goal.put_u32-requires
put_u32-requires c = storing-room _ _ _ _ _ _ c.loop-i.invariant.0 c.loop-i-test.true _ _ (came c.next.ensures c.in-Ok-Some.is c.in-Ok-Some.field-0-is)

pub loop-i-preserved : goal.loop-i-preserved
loop-i-preserved c = let i = c.loop-i.invariant in
    let s = storing-mark _ _ _ _ _ _ i.0 c.loop-i-test.true _ _ (came c.next.ensures c.in-Ok-Some.is c.in-Ok-Some.field-0-is) _ c.put_u32.ensures in
    (s.0, s.1 ∙ i.1)

pub shape_of-marks : goal.shape_of-marks
shape_of-marks c = c.loop-i.invariant.1

pub returns : goal.returns
returns c = let l = c.loop-i in storing-all _ _ _ _ _ _ l.invariant.0 c.loop-i-test.false
