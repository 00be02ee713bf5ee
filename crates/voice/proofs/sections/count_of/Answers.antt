use native.Mathlib.Omega.{arith}
use Rattle.base.specs.Bytes.{little_endian}
use Rattle.voice.proofs.sections.count_of.Goals as goal

pub returns : goal.returns
unfolding little_endian
returns c =
    omega (arith, c.byte_at.ensures.0, c.byte_at-2.ensures.0, c.byte_at-3.ensures.0, c.byte_at-4.ensures.0)
