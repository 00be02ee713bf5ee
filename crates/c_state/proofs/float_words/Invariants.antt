use mathlib.Core.Path.{◌≡◌}
use mathlib.Core.List.{List}
use Prim.Native.Nat.{ℕ, ◌≤◌}
use lib.ListN.{get_or, replicate}
use lib.Ieee.{Float, nan, binary32, to_bits}
use Rattle.base.specs.Buffers.{over, upto}
use Rattle.c_state.proofs.float_words.Given as goal

abbrev pub bits_at : List Float → ℕ → ℕ
bits_at history i = to_bits binary32 (get_or history i nan)

abbrev pub invariant-loop-i : goal.invariant-loop-i
invariant-loop-i l = (l.i ≤ 33) × (l.words ≡ over (upto (bits_at l.history) l.i) (replicate 33 0))
