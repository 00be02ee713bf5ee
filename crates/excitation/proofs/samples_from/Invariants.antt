use mathlib.Core.Path.{◌≡◌}
use Prim.Native.Nat.{◌-◌, ◌*◌, ◌≤◌}
use Rattle.voice.specs.Voice.{voice_of}
use Rattle.voice.specs.Periods.{samples_from}
use Rattle.excitation.proofs.samples_from.Given as goal

abbrev pub invariant-loop-p : goal.invariant-loop-p
invariant-loop-p l = (l.from ≤ l.p) × ((l.p ≤ l.to) × ((l.sum ≡ samples_from (voice_of l.file) l.p (l.to - l.p)) × (l.sum ≤ 16777215 * (l.to - l.p))))
