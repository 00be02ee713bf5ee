use lib.Ieee.{of_bits}
use Rattle.marks.specs.PitchMarks.{goes_on}
use Rattle.marks.proofs.goes_on.Goals as goal

pub returns-then-w : goal.returns-then-w
unfolding goes_on of_bits
returns-then-w c = simp (c.if-w.true, c.f0_at.ensures)

pub returns-else-w : goal.returns-else-w
unfolding goes_on
returns-else-w c = simp c.if-w.false
