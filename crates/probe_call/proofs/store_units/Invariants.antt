use mathlib.Core.Path.{◌≡◌}
use Prim.Native.Nat.{◌*◌, ◌≤◌}
use lib.ListN.{length}
use Rattle.units.specs.Walking.{UnitWalking, many_left}
use Rattle.probe_call.proofs.store_units.Given as goal

abbrev pub invariant-loop-by : goal.invariant-loop-by
invariant-loop-by l = UnitWalking l.by.voice.header.frames l.sheet l.by.places.segments.count l.walk × ((length l.out ≡ length l.initial.out) × (24 * l.n ≤ length l.initial.out))

abbrev pub decreases-loop-by : goal.decreases-loop-by
decreases-loop-by l = many_left l.walk
