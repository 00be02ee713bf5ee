use Rattle.std.proofs.Common.{◌∙◌, le-ltb}
use Rattle.decimal.proofs.TextLaws.{has_here, has-none}
use Rattle.decimal.proofs.has.Goals as goal

pub returns-then-at-text : goal.returns-then-at-text
returns-then-at-text c = let a = c.args in has_here a.byte a.text.now a.at c.if-at-text.true

pub returns-else-at-text : goal.returns-else-at-text
returns-else-at-text c =
    let a = c.args in
    le-ltb _ _ c.if-at-text.false ∙ has-none a.byte a.text.now a.at c.if-at-text.false
