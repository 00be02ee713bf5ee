-- None of the lengths before this one is above its limit.
use Rattle.std.proofs.Common.{◌≡◌, ◌≤◌, true}
use Rattle.replay.specs.Stored.{fitting}
use Rattle.replay.proofs.fits.Given as goal

abbrev pub invariant-loop-i : goal.invariant-loop-i
invariant-loop-i l = (l.i ≤ 9) × (fitting l.head l.i ≡ true)
