use mathlib.Core.Path.{refl}
use lib.Ieee.{of_bits}
use Rattle.units.specs.Units.{midway}
use Rattle.units.proofs.ends.midway.Goals as goal

pub returns : goal.returns
unfolding midway of_bits
returns c = refl
