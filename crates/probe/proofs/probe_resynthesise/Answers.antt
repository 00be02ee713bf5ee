use borrow.Author.Tests.{le-leb, lt-leb, eq-eqb, ne_eqb}
use Rattle.probe.proofs.probe_resynthesise.Goals as goal

pub returns-then-order-gt32 : goal.returns-then-order-gt32
returns-then-order-gt32 c = simp (lt-leb _ _ c.if-order-gt32.true)

pub returns-then-rows-order : goal.returns-then-rows-order
returns-then-rows-order c = simp (le-leb _ _ c.if-order-gt32.false, ne_eqb _ _ c.if-rows-order.true)

pub returns-then-excitation-first : goal.returns-then-excitation-first
returns-then-excitation-first c = simp (le-leb _ _ c.if-order-gt32.false, eq-eqb _ _ c.if-rows-order.false, lt-leb _ _ c.if-excitation-first.true)

pub returns-then-samples-excitation : goal.returns-then-samples-excitation
returns-then-samples-excitation c = simp (le-leb _ _ c.if-order-gt32.false, eq-eqb _ _ c.if-rows-order.false, le-leb _ _ c.if-excitation-first.false, lt-leb _ _ c.if-samples-excitation.true)

pub returns : goal.returns
returns c =
    rw (le-leb _ _ c.if-order-gt32.false, eq-eqb _ _ c.if-rows-order.false, le-leb _ _ c.if-excitation-first.false, le-leb _ _ c.if-samples-excitation.false) c.two_periods.ensures
