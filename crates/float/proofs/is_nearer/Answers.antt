use Rattle.float.proofs.is_nearer.Goals as goal

pub returns : goal.returns
returns c = rw (c.f32_abs.ensures, c.f32_abs-2.ensures)
