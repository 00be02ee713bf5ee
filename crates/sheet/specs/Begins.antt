-- Document 01, 'Call sheet': 'A sheet begins with another if that one's segments and targets, as read, floats by their bits, head its own;
-- they are equal if nothing follows.' A sheet that reads has finite floats alone, and finite floats are equal exactly where their bits
-- agree: the logic's floats keep the sign of a zero (law `Word-back` of `float`).
use Rattle.base.specs.Lists.{Heads}
use Rattle.sheet.specs.Sheet.{Sheet}

-- t begins with s
pub record Begins (t s : Sheet) : Type 0 where
  pub segments : Heads s.segments t.segments
  pub targets : Heads s.targets t.targets
