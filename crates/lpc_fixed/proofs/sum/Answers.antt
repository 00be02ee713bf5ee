use Rattle.std.proofs.Common.{◌≡◌, ℕ, ◌-◌, suc, get_or, ap, ◌∙◌, arith}
use Rattle.lpc.specs.Sums.{fixed_step}
use Rattle.lpc_fixed.proofs.SumLaws.{from, from-end, from-more}
use Rattle.lpc_fixed.proofs.sum.Goals as goal

pub returns-then-order-eq0 : goal.returns-then-order-eq0
returns-then-order-eq0 c = let a = c.args in from-end a.start a.values.now a.window.now a.order a.place 0 (omega arith)

pub loop-k-init : goal.loop-k-init
loop-k-init c = let a = c.args in (omega arith, from-end a.start a.values.now a.window.now a.order a.place a.order (omega arith))

pub loop-k-preserved : goal.loop-k-preserved
loop-k-preserved c =
    let l = c.loop-k in
    let n : l.k ≡ suc (l.k - 1) = omega arith in
    (omega arith, from-more _ _ _ _ _ (l.k - 1) l.acc _ (omega arith) (l.invariant.1 ∙ ap (from _ _ _ _ _) n) (rw c.wrapping_mul-acc.ensures))

pub returns : goal.returns
returns c =
    let a = c.args in
    let l = c.loop-k in
    let n : l.k ≡ 1 = omega arith in
    from-more _ _ _ _ _ 0 l.acc _ (omega arith) (rw n at l.invariant.1)
    (rw c.wrapping_mul.ensures (ap (λ (z : ℕ). fixed_step l.acc (get_or a.values.now 0 0) z) (c.requires.2 ∙ ap (λ (i : ℕ). get_or a.window.now i 0) (omega arith))))
