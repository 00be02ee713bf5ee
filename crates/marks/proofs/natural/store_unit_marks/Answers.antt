use Rattle.std.proofs.Common.{◌≡◌, ◌+◌, ◌-◌, refl, ◌∙◌, arith}
use Rattle.marks.proofs.StoreLaws.{unit-stored, unit-room, unit-low, unit-storing, unit-first}
use Rattle.marks.proofs.natural.store_unit_marks.Goals as goal

pub loop-p-init : goal.loop-p-init
loop-p-init c = let e : c.args.index + (c.args.first - c.args.first) ≡ c.args.index = omega arith in
    (rw e (unit-first _ _ _ _ _ _ _ c.requires), refl, omega arith)

pub period_samples-end-requires : goal.period_samples-end-requires
period_samples-end-requires c = let q = c.requires in let w = q.within in (q.opens, omega arith)

pub overflow_cast-end : goal.overflow_cast-end
overflow_cast-end c = let u = unit-low _ _ _ _ _ _ _ _ c.loop-p.invariant.0 c.loop-p-test.true _ c.period_samples-end.ensures.0 in
    let w = c.requires.low in
    omega arith

pub put_u32-requires : goal.put_u32-requires
put_u32-requires c = unit-room _ _ _ _ _ _ _ _ c.loop-p.invariant.0 c.loop-p-test.true

pub loop-p-preserved : goal.loop-p-preserved
loop-p-preserved c = let l = c.loop-p in
    let s = unit-storing _ _ _ _ _ _ _ _ l.invariant.0 c.loop-p-test.true _ _ c.period_samples-end.ensures.0 c.put_u32.ensures in
    let e : c.args.index + (l.p - c.args.first) + 1 ≡ c.args.index + (l.p + 1 - c.args.first) = omega (arith, l.invariant.2) in
    (rw e at s.0, s.1 ∙ l.invariant.1, omega (arith, l.invariant.2))

pub shape_of-marks : goal.shape_of-marks
shape_of-marks c = c.loop-p.invariant.1

pub returns : goal.returns
returns c = unit-stored _ _ _ _ _ _ _ _ c.loop-p.invariant.0 c.loop-p-test.false
