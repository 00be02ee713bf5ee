use mathlib.Core.Path.{◌≡◌}
use Prim.Native.Nat.{◌≤◌}
use lib.ListN.{replicate}
use Rattle.base.specs.Buffers.{over, upto}
use Rattle.c_state.specs.State.{history_at}
use Rattle.c_state.proofs.load_words.Given as goal

abbrev pub invariant-loop-i : goal.invariant-loop-i
invariant-loop-i l = (l.i ≤ 33) × (l.history ≡ over (upto (history_at l.buf) l.i) (replicate 33 0))
