use lib.Seq.{sets}
use Rattle.base.specs.Buffers.{flat}
use Rattle.voice.specs.Voice.{voice_of}
use Rattle.units.specs.Walking.{UnitWalking, many_left, units_left}
use Rattle.reporting.specs.Report.{line_bytes}
use Rattle.reporting.specs.Reporting.{marks_ahead, units_report}
use Rattle.reporting.proofs.UnitLaws.{UnitsReporting}
use Rattle.reporting.proofs.report_units.Given as goal

abbrev pub invariant-loop-by : goal.invariant-loop-by
invariant-loop-by l =
    let v = voice_of l.file in
    let segments = l.by.places.segments.count in
    UnitWalking l.by.voice.header.frames l.sheet segments l.walk
    × UnitsReporting v l.natural (units_left v l.by.fold l.sheet segments l.walk) l.end l.count l.at l.lines
    (sets l.initial.lines 0 (flat line_bytes (units_report l.natural l.file l.sheet l.by (marks_ahead l.count l.initial.lines 0))))

abbrev pub decreases-loop-by : goal.decreases-loop-by
decreases-loop-by l = many_left l.walk
