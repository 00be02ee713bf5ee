use mathlib.Core.Path.{◌≡◌}
use Prim.Native.Nat.{◌≤◌}
use lib.ListN.{length}
use Rattle.units.specs.Walking.{UnitWalking, many_left}
use Rattle.probe_call.proofs.store_natural_marks.Given as goal

abbrev pub invariant-loop-by : goal.invariant-loop-by
invariant-loop-by l = UnitWalking l.by.voice.header.frames l.sheet l.by.places.segments.count l.walk × ((length l.marks ≡ length l.initial.marks) × ((l.place ≤ 16777215) × (l.left ≤ 65536)))

abbrev pub decreases-loop-by : goal.decreases-loop-by
decreases-loop-by l = many_left l.walk
