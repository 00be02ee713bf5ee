use lib.Ieee.{of_bits}
use Rattle.marks.specs.PitchMarks.{next_time}
use Rattle.marks.proofs.next_time.Goals as goal

pub returns : goal.returns
unfolding next_time of_bits
returns c = simp c.f0_at.ensures
