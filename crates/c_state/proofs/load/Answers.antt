use mathlib.Core.Path.{sym, ◌∙◌}
use borrow.Author.Tests.{eq-eqb, ne_eqb}
use Rattle.c_state.specs.State.{head_of, state_of}
use Rattle.c_state.proofs.load.Goals as goal

pub returns-then-read_u32-eq0 : goal.returns-then-read_u32-eq0
unfolding state_of head_of
returns-then-read_u32-eq0 c =
    let e = eq-eqb _ _ (sym c.read_u32.ensures ∙ c.if-read_u32-eq0.true) in
    rw (e, c.load_words.ensures, c.load_head.ensures)

pub returns-else-read_u32-eq0 : goal.returns-else-read_u32-eq0
unfolding state_of head_of
returns-else-read_u32-eq0 c =
    let e = ne_eqb _ _ (λ q. c.if-read_u32-eq0.false (c.read_u32.ensures ∙ q)) in
    rw (e, c.load_floats.ensures, c.load_head-else-read_u32-eq0.ensures)
