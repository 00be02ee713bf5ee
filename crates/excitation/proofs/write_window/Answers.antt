use mathlib.Core.Path.{◌≡◌, ap, ◌∙◌}
use native.Mathlib.Omega.{arith}
use mathlib.Core.List.{List}
use Prim.Native.Nat.{ℕ, ◌+◌, ◌-◌, ◌/◌}
use lib.ListN.{length, take, drop, replicate}
use lib.Seq.{sets}
use Rattle.excitation.proofs.WindowLaws.{window-short, window-long}
use Rattle.excitation.proofs.write_window.Goals as goal

pub returns-then-n-size : goal.returns-then-n-size
returns-then-n-size c =
    let s = c.args.source.now in
    let d = c.args.buf.now in
    let at = c.args.at in
    let size = c.args.size in
    let before = (size - length s) / 2 in
    c.fill_at-then-n-size.ensures
    ∙ ap (λ (t : List ℕ). sets t (at + before + length s) (replicate (size - length s - before) 255)) (c.copy_at.ensures ∙ ap (λ (t : List ℕ). sets t (at + before) s) c.fill_at.ensures)
    ∙ window-short d s at size c.if-n-size.true

pub returns-else-n-size : goal.returns-else-n-size
returns-else-n-size c =
    let s = c.args.source.now in
    let d = c.args.buf.now in
    let at = c.args.at in
    let size = c.args.size in
    let from = (length s - size) / 2 in
    let k : from + size - from ≡ size = omega arith in
    c.copy_at-else-n-size.ensures ∙ ap (λ (n : ℕ). sets d at (take n (drop from s))) k ∙ window-long d s at size c.if-n-size.false
