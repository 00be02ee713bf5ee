use Rattle.lpc.specs.State.{fresh_state}
use Rattle.c_state.specs.State.{head_of}
use Rattle.c_state.proofs.load_head.Goals as goal

pub returns : goal.returns
unfolding head_of fresh_state
returns c =
    rw (c.read_u64-2.ensures, c.read_u64.ensures, c.read_u32-3.ensures, c.fresh.ensures, c.f32_from_word-coeff_range.ensures, c.read_u32-2.ensures, c.f32_from_word-coeff_min.ensures, c.read_u32.ensures, c.read_u32-order.ensures)
