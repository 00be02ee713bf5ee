use mathlib.Core.Path.{◌≡◌}
use Prim.Native.Nat.{◌≤◌}
use Rattle.adpcm.specs.Decoder.{codes_of, state_at}
use Rattle.adpcm.specs.Words.{Words}
use Rattle.probe_state.proofs.state_after.Given as goal

abbrev pub invariant-loop-k : goal.invariant-loop-k
invariant-loop-k l = (l.k ≤ l.count) × ((l.state ≡ state_at (codes_of l.packed) l.k) × Words l.state)
