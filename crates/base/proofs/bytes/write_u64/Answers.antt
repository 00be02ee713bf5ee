use Rattle.std.proofs.Common.{◌∙◌}
use Rattle.base.proofs.ByteLaws.{written}
use Rattle.base.proofs.bytes.write_u64.Goals as goal

pub returns : goal.returns
returns c =
    let a = c.args in
    written 8 a.v a.buf.now _ a.at c.requires (c.copy_from_slice.ensures.after ∙ c.to_le_bytes.ensures)
