use Rattle.std.proofs.Common.{◌≡◌, ◌-◌, ◌≤◌}
use Rattle.voice.specs.Voice.{voice_of}
use Rattle.marks.specs.Checking.{unit_marks}
use Rattle.marks.proofs.natural.check_unit_marks.Given as goal

abbrev pub invariant-loop-p : goal.invariant-loop-p
invariant-loop-p l = (unit_marks (voice_of l.file) l.end l.p (l.last - l.p) l.allowed ≡ unit_marks (voice_of l.file) l.place l.first (l.last - l.first) l.left) × (l.end ≤ 16777215)
