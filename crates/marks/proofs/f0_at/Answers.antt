use Rattle.std.proofs.Common.{refl}
use Rattle.marks.specs.PitchMarks.{f0_at}
use Rattle.marks.proofs.f0_at.Goals as goal

pub returns : goal.returns
unfolding f0_at
returns c = refl
