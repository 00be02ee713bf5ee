use Rattle.std.proofs.Common.{◌≡◌, ◌+◌, ◌-◌, ◌*◌, ◌≤◌, length}
use lib.Seq.{sets}
use Rattle.base.specs.Buffers.{flat}
use Rattle.base.specs.Bytes.{bytes_of}
use Rattle.voice.specs.Voice.{voice_of}
use Rattle.voice.specs.Periods.{samples_from}
use Rattle.marks.specs.NaturalMarks.{marks_of_periods}
use Rattle.marks.proofs.StoreLaws.{UnitStoring}
use Rattle.marks.proofs.natural.store_unit_marks.Given as goal

abbrev pub invariant-loop-p : goal.invariant-loop-p
invariant-loop-p l =
    let v = voice_of l.file in
    UnitStoring v l.last l.marks l.end (l.index + (l.p - l.first)) l.p (sets l.initial.marks (4 * l.index) (flat (bytes_of 4) (marks_of_periods v l.place l.first (l.last - l.first)))) (l.place + samples_from v l.first (l.last - l.first))
    × (length l.marks ≡ length l.initial.marks)
    × (l.first ≤ l.p)
