use Rattle.std.proofs.Common.{rules}
use Rattle.units.proofs.SelectLaws.{selected-or}
use Rattle.units.proofs.select.select.Goals as goal

pub returns : goal.returns
returns c = selected-or _ _ c.requires.0.opened _ _ _ c.find_tried-tried.ensures c.unwrap_or_else.ensures (λ p. search rules)
