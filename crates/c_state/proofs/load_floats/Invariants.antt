use mathlib.Core.Path.{◌≡◌}
use Prim.Native.Nat.{ℕ, ◌≤◌}
use lib.ListN.{replicate}
use lib.Ieee.{Float, binary32, of_bits}
use mathlib.Core.List.{List}
use Rattle.base.specs.Buffers.{over, upto}
use Rattle.c_state.specs.State.{history_at}
use Rattle.c_state.proofs.load_floats.Given as goal

abbrev pub float_at : List ℕ → ℕ → Float
float_at b i = of_bits binary32 (history_at b i)

abbrev pub invariant-loop-i : goal.invariant-loop-i
invariant-loop-i l = (l.i ≤ 33) × (l.history ≡ over (upto (float_at l.buf) l.i) (replicate 33 (of_bits binary32 0)))
