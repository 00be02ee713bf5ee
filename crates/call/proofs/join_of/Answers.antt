use borrow.Author.Tests.{eq-eqb, ne_eqb}
use Rattle.call.specs.Numbers.{join_of}
use Rattle.call.proofs.join_of.Goals as goal

pub returns-then-n-eq0 : goal.returns-then-n-eq0
unfolding join_of
returns-then-n-eq0 c = rw (eq-eqb _ _ c.if-n-eq0.true)

pub returns-then-n-eq1 : goal.returns-then-n-eq1
unfolding join_of
returns-then-n-eq1 c = rw (ne_eqb _ _ c.if-n-eq0.false, eq-eqb _ _ c.if-n-eq1.true)

pub returns : goal.returns
unfolding join_of
returns c = rw (ne_eqb _ _ c.if-n-eq0.false, ne_eqb _ _ c.if-n-eq1.false)
