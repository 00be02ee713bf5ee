use mathlib.Core.Path.{refl}
use Rattle.index.proofs.WalkLaws.{periods-are}
use Rattle.std.proofs.Common.{rules}
use Rattle.index.proofs.periods_at.Goals as goal

pub returns : goal.returns
returns c =
    let a = c.args in
    (periods-are a.entries.now a.at _ _ _ _ refl c.read_u16.ensures refl refl, search rules)
