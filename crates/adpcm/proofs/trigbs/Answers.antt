use borrow.Author.Tests.{eq-eqb, ne_eqb}
use Rattle.adpcm.proofs.trigbs.Goals as goal

pub returns-then-tr-eq0 : goal.returns-then-tr-eq0
returns-then-tr-eq0 c = rw (eq-eqb _ _ c.if-tr-eq0.true)

pub returns-else-tr-eq0 : goal.returns-else-tr-eq0
returns-else-tr-eq0 c = rw (ne_eqb _ _ c.if-tr-eq0.false)
