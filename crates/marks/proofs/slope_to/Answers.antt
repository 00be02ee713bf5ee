use Rattle.marks.specs.PitchMarks.{slope_of}
use Rattle.marks.proofs.slope_to.Goals as goal

pub returns : goal.returns
unfolding slope_of
returns c = rw (c.f32_to_f64_with_nan.ensures, c.f64_to_f32.ensures)
