use mathlib.Core.Path.{◌≡◌, refl, sym, ◌∙◌}
use Prim.Native.Nat.{◌+◌, ◌-◌}
use Rattle.index.proofs.WalkLaws.{turn}
use Rattle.index.proofs.TestLaws.{ascending-turn, ascending-short}
use native.Mathlib.Omega.{arith}
use Rattle.index.proofs.is_ascending.Goals as goal

pub loop-init : goal.loop-init
loop-init c =
    let e : c.args.count + 1 - 1 ≡ c.args.count = omega arith in
    rw e (omega arith, (c.requires, refl))

pub next_entry-next-requires : goal.next_entry-next-requires
next_entry-next-requires c = (turn _ _ _ (omega arith) c.loop.invariant.1.0).fits

pub stands_before-requires : goal.stands_before-requires
stands_before-requires c =
    let t = turn _ _ _ (omega arith) c.loop.invariant.1.0 in
    (t.fits, rw c.next_entry-next.ensures.0 (turn _ _ _ (omega arith) t.whole).fits)

pub returns-then-not-stands_before : goal.returns-then-not-stands_before
returns-then-not-stands_before c =
    let l = c.loop in
    let b = sym c.stands_before.ensures ∙ c.if-not-stands_before.true in
    sym (ascending-turn _ _ _ (omega arith) l.invariant.1.0 ∙ rw (← c.next_entry-next.ensures.0, b)) ∙ l.invariant.1.1

pub loop-preserved : goal.loop-preserved
loop-preserved c =
    let l = c.loop in
    let t = turn _ _ _ (omega arith) l.invariant.1.0 in
    let b = sym c.stands_before.ensures ∙ c.if-not-stands_before.false in
    let e : c.args.count + 1 - (l.counter + 1) ≡ c.args.count + 1 - l.counter - 1 = omega arith in
    (omega arith, rw (e, c.next_entry-next.ensures.0) (t.whole, sym (ascending-turn _ _ _ (omega arith) l.invariant.1.0 ∙ rw (← c.next_entry-next.ensures.0, b)) ∙ l.invariant.1.1))

pub returns : goal.returns
returns c =
    let l = c.loop in
    sym (ascending-short _ _ _ (omega arith) l.invariant.1.0) ∙ l.invariant.1.1
