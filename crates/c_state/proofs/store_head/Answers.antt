use Rattle.std.proofs.Common.{rules}
use Rattle.c_state.proofs.StateLaws.{stored-head}
use Rattle.c_state.proofs.store_head.Goals as goal

pub returns : goal.returns
returns c =
    let a = c.args in
    stored-head a.state a.buf.now _ _ _ _ _ _ _ _ _ _ _ _ c.requires
    (search rules)
    c.low32.ensures
    c.low32-2.ensures
    c.f32_to_word.ensures
    c.f32_to_word-2.ensures
    c.write_u32.ensures
    c.write_u32-2.ensures
    c.write_u32-3.ensures
    c.write_u32-4.ensures
    c.write_u32-5.ensures
    c.write_u64.ensures
    c.write_u64-2.ensures
