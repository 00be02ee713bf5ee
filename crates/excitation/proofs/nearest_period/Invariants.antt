use mathlib.Core.Path.{◌≡◌}
use Prim.Native.Nat.{◌-◌, ◌≤◌}
use Rattle.voice.specs.Voice.{voice_of}
use Rattle.excitation.specs.Nearest.{nearest_from}
use Rattle.excitation.proofs.nearest_period.Given as goal

abbrev pub invariant-loop-p : goal.invariant-loop-p
invariant-loop-p l = (l.p ≤ l.unit.last_period) × (nearest_from (voice_of l.file) l.place l.start l.p (l.unit.last_period - l.p) ≡ nearest_from (voice_of l.file) l.place l.initial.start l.initial.p (l.unit.last_period - l.initial.p))
