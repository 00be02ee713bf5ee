use native.Mathlib.Omega.{arith}
use mathlib.Core.Path.{refl, ap, ◌∙◌}
use mathlib.Core.List.{List}
use Prim.Native.Nat.{ℕ, ◌+◌}
use lib.ListN.{length, take, get_or, set}
use lib.Seq.{sets, length-sets, take_all}
use Rattle.excitation.proofs.WindowLaws.{copied_more}
use Rattle.excitation.proofs.copy_at.Goals as goal

pub loop-i-init : goal.loop-i-init
loop-i-init c = (omega arith, refl)

pub overflow_add-buf : goal.overflow_add-buf
overflow_add-buf c = let h = c.requires in let g = c.well_formed in omega (arith, h, g.1.0.0)

pub bounds-buf-at : goal.bounds-buf-at
bounds-buf-at c =
    let l = c.loop-i in
    let e = ap length l.invariant.1 ∙ length-sets c.args.buf.now c.args.at (take l.i c.args.from.now) in
    omega (arith, e, c.requires)

pub loop-i-preserved : goal.loop-i-preserved
loop-i-preserved c =
    let l = c.loop-i in
    let s = c.args.from.now in
    let at = c.args.at in
    (omega arith, ap (λ (t : List ℕ). set t (at + l.i) (get_or s l.i 0)) l.invariant.1 ∙ copied_more c.args.buf.now s at l.i c.loop-i-test.true)

pub shape_of-buf : goal.shape_of-buf
shape_of-buf c = ap length c.loop-i.invariant.1 ∙ length-sets c.args.buf.now c.args.at (take c.loop-i.i c.args.from.now)

pub returns : goal.returns
returns c =
    let l = c.loop-i in
    let s = c.args.from.now in
    l.invariant.1 ∙ ap (λ (t : List ℕ). sets c.args.buf.now c.args.at t) (take_all l.i s (omega arith))
