use Rattle.std.proofs.Common.{◌∙◌}
use native.Mathlib.Nat.{add-zero}
use Rattle.base.proofs.ByteLaws.{little_endian-read}
use Rattle.base.proofs.bytes.read_u32.Goals as goal

pub returns : goal.returns
returns c =
    let a = c.args in
    c.from_le_bytes.ensures ∙ rw (add-zero a.at) at (little_endian-read 3 a.s.now a.at)
