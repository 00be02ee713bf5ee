use mathlib.Core.Path.{◌≡◌}
use Rattle.voice.specs.Voice.{voice_of}
use Rattle.voice.specs.Periods.{offset, longest}
use Rattle.voice.proofs.periods.next_longer.Given as goal

abbrev pub invariant-loop-p : goal.invariant-loop-p
invariant-loop-p l = (l.begin ≡ offset (voice_of l.file) l.p) × (longest (voice_of l.file) l.p ≡ l.most)
