use Rattle.std.proofs.Common.{ap, ◌∙◌, arith}
use Rattle.std.specs.Int.{bytes_low_first}
use Rattle.base.proofs.ByteLaws.{written}
use Rattle.base.proofs.bytes.write_u32.Goals as goal

pub returns : goal.returns
returns c =
    let a = c.args in
    written 4 a.v a.buf.now _ a.at c.requires (c.copy_from_slice.ensures.after ∙ c.to_le_bytes.ensures ∙ ap (bytes_low_first 0 4) (omega arith))
