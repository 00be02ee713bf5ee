use mathlib.Core.Path.{refl}
use native.Mathlib.Omega.{arith}
use Rattle.marks.specs.Checking.{last_of, up_to}
use Rattle.checking.proofs.no_marks.Goals as goal

pub returns : goal.returns
unfolding up_to last_of
returns c = (refl, record { marks = refl; taken = refl; last = refl; few = omega arith; fewer = omega arith; low = omega arith })
