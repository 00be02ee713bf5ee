use borrow.Author.Tests.{eq-eqb, ne_eqb}
use Rattle.probe.proofs.filter_of.Goals as goal

pub returns-then-filter-eq0 : goal.returns-then-filter-eq0
returns-then-filter-eq0 c = simp (eq-eqb _ _ c.if-filter-eq0.true)

pub returns-else-filter-eq0 : goal.returns-else-filter-eq0
returns-else-filter-eq0 c = simp (ne_eqb _ _ c.if-filter-eq0.false)
