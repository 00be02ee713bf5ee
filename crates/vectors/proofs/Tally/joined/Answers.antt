-- `first` is this tally's, or counts on into the other.
use Rattle.std.proofs.Common.{refl}
use borrow.Author.Tests.{eq-eqb, ne_eqb}
use Rattle.vectors.specs.Tallies.{joined}
use Rattle.vectors.proofs.Tally.joined.Goals as goal

pub returns-then-self-eq0 : goal.returns-then-self-eq0
unfolding joined
returns-then-self-eq0 c = rw (eq-eqb _ _ c.if-self-eq0.true) refl

pub returns-else-self-eq0 : goal.returns-else-self-eq0
unfolding joined
returns-else-self-eq0 c = rw (ne_eqb _ _ c.if-self-eq0.false) refl
