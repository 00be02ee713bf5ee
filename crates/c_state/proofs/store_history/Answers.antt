use mathlib.Core.Path.{◌≡◌, refl, ◌∙◌}
use Prim.Native.Nat.{◌+◌, ◌*◌, ◌≤◌}
use native.Mathlib.Omega.{arith}
use lib.ListN.{length}
use Rattle.base.specs.Buffers.{upto}
use Rattle.base.specs.Bytes.{bytes_of}
use Rattle.base.proofs.BufferLaws.{upto-same, get_or-upto, filled_none, filled_more}
use Rattle.base.proofs.ByteLaws.{length-bytes_of}
use Rattle.c_state.specs.State.{word_of}
use Rattle.c_state.proofs.store_history.Invariants.{word_in}
use Rattle.c_state.proofs.store_history.Goals as goal

pub loop-i-init : goal.loop-i-init
loop-i-init c = (omega arith, refl, filled_none 4 (bytes_of 4) (length-bytes_of 4) (word_in c.words_of-words.result) 0 c.args.buf.now)

pub loop-i-preserved : goal.loop-i-preserved
loop-i-preserved c =
    let l = c.loop-i in
    let a = c.args in
    let f = word_in c.words_of-words.result in
    let room : 4 * l.i + 4 ≤ length a.buf.now = omega arith in (
      omega arith,
      omega arith,
      c.put_u32.ensures ∙ rw l.invariant.2 (filled_more 4 (bytes_of 4) (length-bytes_of 4) f l.i a.buf.now room),
    )

pub returns : goal.returns
returns c =
    let l = c.loop-i in
    let w = c.words_of-words in
    let f = word_of c.args.state in
    let e : l.i ≡ 33 = omega arith in
    let same : upto (word_in w.result) 33 ≡ upto f 33 = upto-same _ f 33 (λ i h. rw w.ensures (get_or-upto f 33 i 0 h)) in
    rw (e, same) at l.invariant.2
