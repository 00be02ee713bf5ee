use Prim.Native.Nat.{ℕ, ◌*◌, ◌/◌}
use lib.ListN.{length}
use Rattle.base.specs.Bytes.{little_endian}
use Rattle.lines.specs.Lines.{next}
use Rattle.lines.proofs.PutLaws.{At}
use Rattle.lines.proofs.put_samples.Given as goal

abbrev pub invariant-loop-i : goal.invariant-loop-i
invariant-loop-i l = At next 7 (λ (k : ℕ). little_endian 2 l.samples (2 * k)) (length l.samples / 2) l.initial.out l.at l.out l.end l.i
