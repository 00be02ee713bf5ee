use mathlib.Core.Path.{◌≡◌, ◌∙◌}
use Prim.Native.Nat.{◌<◌}
use native.Mathlib.Omega.{arith}
use lib.ListN.{replicate}
use Rattle.base.specs.Buffers.{upto}
use Rattle.base.proofs.BufferLaws.{over-all, length-upto, stored-none, stored_more}
use Rattle.c_state.proofs.float_words.Invariants.{bits_at}
use Rattle.c_state.proofs.float_words.Goals as goal

pub loop-i-init : goal.loop-i-init
loop-i-init c = (omega arith, stored-none (bits_at c.args.history.now) 0 (replicate 33 0))

pub loop-i-preserved : goal.loop-i-preserved
loop-i-preserved c =
    let l = c.loop-i in
    let f = bits_at c.args.history.now in
    let room : l.i < 33 = omega arith in
    (omega arith, rw (l.invariant.1, c.f32_to_word.ensures) (stored_more f l.i (replicate 33 0) room))

pub returns : goal.returns
returns c =
    let l = c.loop-i in
    let f = bits_at c.args.history.now in
    let e : l.i ≡ 33 = omega arith in
    rw e at l.invariant.1 ∙ over-all (upto f 33) (replicate 33 0) (omega (arith, length-upto f 33))
