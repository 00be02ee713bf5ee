use Rattle.marks.proofs.WalkLaws.{target-there, advanced}
use Rattle.marks.proofs.advance.Goals as goal

pub target_at-read-requires : goal.target_at-read-requires
target_at-read-requires c = target-there c.args.sheet.now c.args.w c.requires.0 c.requires.1

pub returns : goal.returns
returns c = advanced _ _ _ _ _ c.requires.0 c.requires.1 c.requires.2 c.target_at-read.ensures
    (rw (c.f0_counted.ensures, c.f32_to_f64_with_nan.ensures, c.as_f32.ensures) at c.aim.ensures)
