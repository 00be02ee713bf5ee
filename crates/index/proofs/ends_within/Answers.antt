use mathlib.Core.Path.{◌≡◌, refl}
use Prim.Native.Nat.{◌-◌}
use Rattle.index.proofs.WalkLaws.{turn, step, stop, end}
use Rattle.index.proofs.TestLaws.{within_none, within-past, within_more, end_is}
use native.Mathlib.Omega.{arith}
use Rattle.index.proofs.ends_within.Goals as goal

pub loop-init : goal.loop-init
loop-init c =
    let e : c.args.count - 0 ≡ c.args.count = omega arith in
    rw e (record { whole = c.requires; same = refl })

pub periods_at-e-requires : goal.periods_at-e-requires
periods_at-e-requires c = (turn _ _ _ (omega arith) c.loop.invariant.whole).fits

pub returns-then-frames-e : goal.returns-then-frames-e
returns-then-frames-e c =
    let l = c.loop in
    let e = end_is _ _ _ c.periods_at-e.ensures.0 in
    stop _ _ _ _ _ l.invariant (turn _ _ _ (omega arith) l.invariant.whole) _ (within-past _ _ _ (omega (arith, c.if-frames-e.true, e)))

pub next_entry-at-requires : goal.next_entry-at-requires
next_entry-at-requires c = (turn _ _ _ (omega arith) c.loop.invariant.whole).fits

pub loop-preserved : goal.loop-preserved
loop-preserved c =
    let l = c.loop in
    let e = end_is _ _ _ c.periods_at-e.ensures.0 in
    step _ _ _ _ _ _ _ (omega arith) l.invariant (turn _ _ _ (omega arith) l.invariant.whole) c.next_entry-at.ensures.0 (within_more _ _ _ (omega (arith, c.if-frames-e.false, e)))

pub returns : goal.returns
returns c = end _ _ _ _ _ c.loop.invariant (omega arith) _ (within_none _)
