-- The tally of the calls so far is sound, and so is the length of the last voice.
use Rattle.std.proofs.Common.{◌≡◌, ◌-◌, ◌≤◌, length}
use Rattle.replay.specs.Tallies.{Sound}
use Rattle.replay.proofs.replay.Given as goal

abbrev pub invariant-loop-t : goal.invariant-loop-t
invariant-loop-t g l = (l.v ≤ 32768) × (length l.voice ≡ 32768) × Sound l.t × (l.t.calls ≤ 65535)

abbrev pub decreases-loop-t : goal.decreases-loop-t
decreases-loop-t g l = 65535 - l.t.calls
