use native.Mathlib.Omega.{arith}
use mathlib.Core.Path.{refl, sym, ◌∙◌}
use Rattle.text.proofs.NameLaws.{order-before, order-after, order-more}
use Rattle.text.proofs.compare.Goals as goal

pub loop-i-init : goal.loop-i-init
loop-i-init c = (omega arith, omega arith, refl)

pub returns-then-a-i : goal.returns-then-a-i
returns-then-a-i c =
    let l = c.loop-i in
    sym (order-before c.args.a.now c.args.b.now l.i (omega arith) (omega arith) c.if-a-i.true) ∙ l.invariant.2

pub returns-then-b-i : goal.returns-then-b-i
returns-then-b-i c =
    let l = c.loop-i in
    sym (order-after c.args.a.now c.args.b.now l.i (omega arith) (omega arith) c.if-b-i.true) ∙ l.invariant.2

pub loop-i-preserved : goal.loop-i-preserved
loop-i-preserved c =
    let l = c.loop-i in
    (omega arith, omega arith, order-more c.args.a.now c.args.b.now l.i (omega arith) (omega arith) (omega arith) ∙ l.invariant.2)
