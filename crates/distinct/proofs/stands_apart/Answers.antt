use mathlib.Core.Path.{◌≡◌, refl, sym, ◌∙◌}
use Prim.Native.Nat.{◌-◌}
use Rattle.distinct.proofs.BlockLaws.{apart-end, apart-met, apart_more}
use Rattle.index.proofs.WalkLaws.{turn, step, stop, end}
use native.Mathlib.Omega.{arith}
use Rattle.distinct.proofs.stands_apart.Goals as goal

pub loop-init : goal.loop-init
loop-init c =
    let e : c.args.later - 0 ≡ c.args.later = omega arith in
    rw e (record { whole = c.requires.1.1; same = refl })

pub stands_in-requires : goal.stands_in-requires
stands_in-requires c =
    (c.requires.0, (c.requires.1.0, (turn _ _ _ (omega arith) c.loop.invariant.whole).fits))

pub returns-then-stands_in : goal.returns-then-stands_in
returns-then-stands_in c =
    let l = c.loop in
    stop _ _ _ _ _ l.invariant (turn _ _ _ (omega arith) l.invariant.whole) _ (apart-met _ _ _ (sym c.stands_in.ensures ∙ c.if-stands_in.true))

pub next_entry-at-requires : goal.next_entry-at-requires
next_entry-at-requires c = (turn _ _ _ (omega arith) c.loop.invariant.whole).fits

pub loop-preserved : goal.loop-preserved
loop-preserved c =
    let l = c.loop in
    step _ _ _ _ _ _ _ (omega arith) l.invariant (turn _ _ _ (omega arith) l.invariant.whole) c.next_entry-at.ensures.0 (apart_more _ _ _ (sym c.stands_in.ensures ∙ c.if-stands_in.false))

pub returns : goal.returns
returns c = end _ _ _ _ _ c.loop.invariant (omega arith) _ (apart-end _)
