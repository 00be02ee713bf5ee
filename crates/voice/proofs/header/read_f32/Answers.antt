use Rattle.voice.proofs.header.read_f32.Goals as goal

pub returns : goal.returns
returns c = rw (c.f32_from_word.ensures, c.u32_at.ensures)
