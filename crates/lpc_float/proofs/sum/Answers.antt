use Rattle.std.proofs.Common.{◌≡◌, ◌<◌, get_or, refl, ap, ◌∙◌, arith}
use lib.Ieee.{Float, nan}
use Rattle.lpc.specs.Sums.{float_step}
use Rattle.lpc.proofs.SumLaws.{sum-start, sum-turn, sum-end}
use Rattle.lpc_float.proofs.sum.Goals as goal

pub returns-then-order-eq0 : goal.returns-then-order-eq0
returns-then-order-eq0 c =
    let a = c.args in
    sum-end _ _ _ _ _ _ _ _ _ 0 (sum-start float_step nan a.start a.values.now a.history.now _ _ _ c.place_before-newest.ensures.0 c.place_before-newest.ensures.1) (omega arith)

pub loop-k-init : goal.loop-k-init
loop-k-init c =
    let a = c.args in
    let some : 0 < a.order = omega arith in
    let last : a.last ≡ get_or a.history.now c.place_before-newest.result nan = c.requires.2 ∙ rw c.place_before-newest.ensures.0 in
    sum-turn _ _ _ _ _ _ _ _ _ 0 (sum-start _ _ _ _ _ _ _ _ c.place_before-newest.ensures.0 c.place_before-newest.ensures.1) some _ _ (ap (λ (y : Float). float_step a.start (get_or a.values.now 0 nan) y) last) c.place_before-at.ensures.0 c.place_before-at.ensures.1

pub loop-k-preserved : goal.loop-k-preserved
loop-k-preserved c =
    let l = c.loop-k in
    sum-turn _ _ _ _ _ _ _ l.acc l.at l.k l.invariant c.loop-k-test.true _ _ refl c.place_before-at-in-loop-k.ensures.0 c.place_before-at-in-loop-k.ensures.1

pub returns : goal.returns
returns c = sum-end _ _ _ _ _ _ _ c.loop-k.acc c.loop-k.at c.loop-k.k c.loop-k.invariant c.loop-k-test.false
