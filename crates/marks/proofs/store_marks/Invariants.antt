use Rattle.std.proofs.Common.{◌≡◌, length, take}
use Rattle.base.specs.Buffers.{over, flat}
use Rattle.base.specs.Bytes.{bytes_of}
use Rattle.sheet.specs.Sheet.{sheet_of}
use Rattle.marks.specs.PitchMarks.{pitch_marks}
use Rattle.marks.proofs.StoreLaws.{Storing}
use Rattle.marks.proofs.store_marks.Given as goal

abbrev pub invariant-loop-i : goal.invariant-loop-i
invariant-loop-i l =
    Storing l.sheet l.count l.walk l.marks l.i (over (flat (bytes_of 4) (take l.count (pitch_marks l.rate (sheet_of l.sheet).targets).marks)) l.initial.marks) × (length l.marks ≡ length l.initial.marks)
