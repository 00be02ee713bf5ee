-- The lines before this one stand at the front of the buffer.
use Rattle.std.proofs.Common.{◌+◌, ◌/◌, length}
use mathlib.Core.List.{List}
use Prim.Native.Nat.{ℕ}
use Rattle.lines.proofs.PutLaws.{At}
use Rattle.report.specs.ReportText.{line_text}
use Rattle.report.specs.Packed.{line_at}
use Rattle.report.proofs.put_lines.Given as goal

abbrev pub invariant-loop-i : goal.invariant-loop-i
invariant-loop-i l = At (λ (t : List ℕ). t) 30 (λ (k : ℕ). line_text (k + 1) (line_at l.report k)) (length l.report / 16) l.initial.out 0 l.out l.end l.i
