use mathlib.Core.Path.{sym, ◌∙◌}
use Rattle.search.proofs.earlier.Goals as goal

pub returns-then-stands_before : goal.returns-then-stands_before
returns-then-stands_before c = rw (sym c.stands_before.ensures ∙ c.if-stands_before.true)

pub returns-else-stands_before : goal.returns-else-stands_before
returns-else-stands_before c = rw (sym c.stands_before.ensures ∙ c.if-stands_before.false)
