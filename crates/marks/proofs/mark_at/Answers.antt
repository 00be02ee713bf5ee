use Rattle.marks.specs.PitchMarks.{mark_at}
use Rattle.marks.proofs.mark_at.Goals as goal

pub returns : goal.returns
unfolding mark_at
returns c = c.f64_to_usize.ensures
