use mathlib.Core.Path.{sym, subst}
use Rattle.sparse.specs.Sparse.{Begins}
use Rattle.sparse.proofs.place_at.Goals as goal

pub returns : goal.returns
returns c = subst (Begins _ _ _) (sym c.u64_at.ensures) (c.requires.0.places _ c.requires.1)
