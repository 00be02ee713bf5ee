use mathlib.Core.Path.{◌≡◌}
use mathlib.Core.List.{List}
use Prim.Native.Nat.{ℕ, ◌≤◌}
use lib.ListN.{length, get_or}
use Rattle.base.specs.Buffers.{over, flat, upto}
use Rattle.base.specs.Bytes.{bytes_of}
use Rattle.c_state.proofs.store_history.Given as goal

abbrev pub word_in : List ℕ → ℕ → ℕ
word_in words i = get_or words i 0

abbrev pub invariant-loop-i : goal.invariant-loop-i
invariant-loop-i l = (l.i ≤ 33) × (length l.buf ≡ length l.initial.buf) × (l.buf ≡ over (flat (bytes_of 4) (upto (word_in l.words) l.i)) l.initial.buf)
