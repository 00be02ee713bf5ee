use Rattle.voice.specs.Voice.{voice_of}
use Rattle.sheet.specs.Sheet.{sheet_of}
use Rattle.units.specs.Selecting.{folded}
use Rattle.units.specs.Units.{units_of}
use Rattle.units.specs.Walking.{UnitWalking, units_left, many_left}
use Rattle.checking.proofs.NaturalLaws.{Going}
use Rattle.checking.proofs.check_natural.Given as goal

abbrev pub invariant-loop-by : goal.invariant-loop-by
invariant-loop-by l =
    UnitWalking l.by.voice.header.frames l.sheet l.by.places.segments.count l.walk
    × Going (voice_of l.file) (units_of (voice_of l.file) (folded l.by.fold (sheet_of l.sheet).segments)) (units_left (voice_of l.file) l.by.fold l.sheet l.by.places.segments.count l.walk) l.place l.left

abbrev pub decreases-loop-by : goal.decreases-loop-by
decreases-loop-by l = many_left l.walk
