use mathlib.Core.Path.{◌≡◌, refl, sym}
use Prim.Native.Nat.{ℕ, ◌+◌, ◌-◌, ◌<◌}
use native.Mathlib.Omega.{arith}
use lib.Count.{count_leading_zeros}
use Rattle.ulaw.specs.Ulaw.{decision_value}
use Rattle.ulaw.proofs.Intervals.{enclosed-last}
use Rattle.ulaw.proofs.Segments.{Segment, segment, coded}
use Rattle.ulaw.proofs.interval_of.Goals as goal

-- the segment of a magnitude that is not clipped
found : (v : ℕ) → v < 32635 → Segment (v + 132)
found v h = segment (v + 132) (omega arith) (omega arith)

pub overflow_sub-segment : goal.overflow_sub-segment
overflow_sub-segment c = let g = found c.args.magnitude c.if-magnitude-lt-CLIP.true in omega arith

pub overflow_cast-result : goal.overflow_cast-result
overflow_cast-result c = let g = found c.args.magnitude c.if-magnitude-lt-CLIP.true in omega arith

pub returns-then-magnitude-lt-CLIP : goal.returns-then-magnitude-lt-CLIP
returns-then-magnitude-lt-CLIP c =
    let v = c.args.magnitude in
    let g = found v c.if-magnitude-lt-CLIP.true in
    let e : 24 - count_leading_zeros 32 (v + 132) ≡ g.s = omega arith in
    (rw e (sym (coded v (v + 132) c.if-magnitude-lt-CLIP.true refl g)), omega arith)

pub returns-else-magnitude-lt-CLIP : goal.returns-else-magnitude-lt-CLIP
unfolding decision_value
returns-else-magnitude-lt-CLIP c = (sym (enclosed-last c.args.magnitude (omega arith)), omega arith)
