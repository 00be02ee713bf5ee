use mathlib.Core.Path.{refl}
use lib.Ieee.{of_bits}
use Rattle.lpc.specs.State.{fresh_state}
use Rattle.lpc.proofs.FilterState.fresh.Goals as goal

pub returns : goal.returns
unfolding fresh_state of_bits
returns c = refl
