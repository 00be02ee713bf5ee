use Rattle.std.proofs.Common.{◌≡◌, ℕ, List, length, get_or}
use lib.Ieee.{Float, nan}
use Rattle.base.specs.Bytes.{elements}
use Rattle.lpc.specs.Ring.{Ring, place_before}
use Rattle.lpc.proofs.RunLaws.{Run}
use Rattle.lpc.proofs.StateLaws.{float_of}
use Rattle.lpc_float.proofs.resynthesise_period.Given as goal

abbrev pub ring : List Float → ℕ → Ring Float
ring history place = record { history = history; place = place }

abbrev pub invariant-loop-i : goal.invariant-loop-i
invariant-loop-i l =
    (length l.history ≡ 33) × (l.last ≡ get_or l.history (place_before l.order l.place) nan) × Run (float_of l.state) l.order (elements 2 l.row) l.excitation (ring l.initial.history l.initial.place) l.initial.samples (ring l.history l.place) l.samples l.i
