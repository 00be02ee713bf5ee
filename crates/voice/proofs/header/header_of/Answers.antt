use Rattle.voice.specs.Header.{header_of}
use Rattle.voice.proofs.header.header_of.Goals as goal

pub returns : goal.returns
unfolding header_of
returns c = rw (c.u32_at-5.ensures, c.read_f32-5.ensures, c.read_f32-4.ensures, c.read_f32-3.ensures, c.u32_at-4.ensures, c.read_f32-2.ensures, c.read_f32.ensures, c.u32_at-3.ensures, c.u32_at-2.ensures, c.u32_at.ensures)
