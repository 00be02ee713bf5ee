use mathlib.Core.Path.{◌≡◌}
use Prim.Native.Nat.{◌-◌, ◌≤◌}
use Rattle.voice.specs.Voice.{voice_of}
use Rattle.voice.specs.Periods.{longest}
use Rattle.voice.proofs.periods.longest.Given as goal

abbrev pub invariant-loop-p : goal.invariant-loop-p
invariant-loop-p l = (l.p ≤ l.d.header.frames) × ((longest (voice_of l.file) l.p ≡ l.most) × (l.most ≤ 16777215))

abbrev pub decreases-loop-p : goal.decreases-loop-p
decreases-loop-p l = l.frames - l.p
