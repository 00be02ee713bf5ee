use mathlib.Core.Path.{sym, ◌∙◌}
use Rattle.index.proofs.OrderLaws.{ascending-distinct}
use Rattle.distinct.proofs.has_distinct_names.Goals as goal

pub returns-then-is_ascending : goal.returns-then-is_ascending
returns-then-is_ascending c =
    c.if-is_ascending.true ∙ sym (ascending-distinct _ (sym c.is_ascending.ensures ∙ c.if-is_ascending.true))
