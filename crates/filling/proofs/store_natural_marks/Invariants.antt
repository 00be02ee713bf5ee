use mathlib.Core.Path.{◌≡◌}
use Prim.Native.Nat.{◌-◌}
use lib.ListN.{length}
use Rattle.base.specs.Buffers.{over, flat}
use Rattle.base.specs.Bytes.{bytes_of}
use Rattle.voice.specs.Voice.{voice_of}
use Rattle.units.specs.Walking.{UnitWalking, many_left, units_left}
use Rattle.marks.specs.PitchMarks.{most_marks}
use Rattle.marks.proofs.JoinLaws.{UnitsStoring}
use Rattle.call.specs.declared.JoinType.TheVariants.{Simple}
use Rattle.filling.specs.Filling.{planned}
use Rattle.filling.proofs.store_natural_marks.Given as goal

abbrev pub invariant-loop-by : goal.invariant-loop-by
invariant-loop-by l =
    let count = l.by.places.segments.count in
    UnitWalking l.by.voice.header.frames l.sheet count l.walk
    × (UnitsStoring (voice_of l.file) l.place (most_marks - l.i) (units_left (voice_of l.file) l.by.fold l.sheet count l.walk) l.marks l.i (over (flat (bytes_of 4) (planned Simple l.file l.sheet l.by).marks) l.initial.marks)
    × (length l.marks ≡ length l.initial.marks))

abbrev pub decreases-loop-by : goal.decreases-loop-by
decreases-loop-by l = many_left l.walk
