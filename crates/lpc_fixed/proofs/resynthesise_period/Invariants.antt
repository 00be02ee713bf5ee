use Rattle.std.proofs.Common.{ℕ, List}
use Rattle.base.specs.Bytes.{elements}
use Rattle.lpc.specs.Ring.{Ring}
use Rattle.lpc.proofs.RunLaws.{Run}
use Rattle.lpc.proofs.StateLaws.{fixed_of}
use Rattle.lpc_fixed.proofs.WindowLaws.{Windowed}
use Rattle.lpc_fixed.proofs.resynthesise_period.Given as goal

abbrev pub ring : List ℕ → ℕ → Ring ℕ
ring history place = record { history = history; place = place }

abbrev pub invariant-loop-i : goal.invariant-loop-i
invariant-loop-i l =
    Windowed l.order l.place l.history l.window l.last × Run (fixed_of l.state) l.order (elements 2 l.row) l.excitation (ring l.initial.history l.initial.place) l.initial.samples (ring l.history l.place) l.samples l.i
