use native.Mathlib.Omega.{arith}
use mathlib.Core.Path.{◌≡◌, refl, sym, ◌∙◌}
use lib.ListN.{drop}
use Rattle.text.specs.Trim.{space_at}
use Rattle.text.proofs.TrimLaws.{skip-next, skip-done}
use Rattle.text.proofs.trim.skip.Goals as goal

pub loop-n-init : goal.loop-n-init
loop-n-init c = (c.space_at-n.ensures.0, (c.space_at-n.ensures.1, refl))

pub loop-n-preserved : goal.loop-n-preserved
loop-n-preserved c =
    let l = c.loop-n in
    let s = c.args.s.now in
    (c.space_at-n-in-loop-n.ensures.0, (c.space_at-n-in-loop-n.ensures.1, skip-next s l.at l.n c.loop-n-test.true l.invariant.0 ∙ l.invariant.1.1))

pub returns : goal.returns
returns c =
    let l = c.loop-n in
    let s = c.args.s.now in
    let z : space_at (drop l.at s) ≡ 0 = sym l.invariant.0 ∙ omega arith in
    (sym (skip-done (drop l.at s) z) ∙ l.invariant.1.1, omega arith)
