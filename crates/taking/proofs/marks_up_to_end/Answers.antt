use mathlib.Core.Path.{◌≡◌, refl, ◌∙◌}
use native.Mathlib.Omega.{arith}
use Rattle.taking.proofs.UnitLaws.{share-whole, share-ends, share-goes-on}
use Rattle.taking.proofs.marks_up_to_end.Goals as goal

pub loop-end-init : goal.loop-end-init
loop-end-init c = (omega arith, (refl, omega arith))

pub returns-then-unit-u32_at : goal.returns-then-unit-u32_at
returns-then-unit-u32_at c =
    let a = c.args in (
      share-ends a.unit a.marks.now a.taken c.loop-end.end c.loop-end.invariant.1.0 _
          c.loop-end-test.true c.u32_at.ensures c.if-unit-u32_at.true,
      c.loop-end.invariant.1.1,
    )

pub loop-end-preserved : goal.loop-end-preserved
loop-end-preserved c =
    let a = c.args in
    let t = c.loop-end-test.true in
    (omega arith, (share-goes-on a.unit a.marks.now a.taken c.loop-end.end c.loop-end.invariant.1.0 _ t c.u32_at.ensures c.if-unit-u32_at.false, omega (arith, t)))

pub returns : goal.returns
returns c =
    let a = c.args in
    let l = c.loop-end in
    let e : c.max.result ≡ l.end = omega (arith, c.max.ensures, l.invariant, c.loop-end-test.false) in
    let whole = share-whole a.unit a.marks.now a.taken l.end l.invariant.1.0 c.loop-end-test.false in
    (e ∙ whole, omega (arith, e, l.invariant.1.1))
