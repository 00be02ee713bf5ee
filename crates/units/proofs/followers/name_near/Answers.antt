use mathlib.Core.Path.{sym, ap, subst, ◌∙◌}
use Prim.Native.Nat.{ℕ, ◌<◌}
use native.Mathlib.Omega.{arith}
use Rattle.sheet.specs.Sheet.{sheet_of}
use Rattle.sheet.specs.Followers.{name_of}
use Rattle.units.specs.Walking.{Starts}
use Rattle.units.proofs.WalkLaws.{walking-number}
use Rattle.units.proofs.followers.name_near.Goals as goal

pub walk_at-walk-requires : goal.walk_at-walk-requires
walk_at-walk-requires c =
    let p = c.requires.1 in
    let k = c.kept_place-at in
    let e = k.ensures (omega arith) in
    (subst (Starts _ _ _) (sym e) (p.0.starts _ (subst (λ (n : ℕ). 0 < n) e (omega arith))), omega arith)

pub loop-init : goal.loop-init
loop-init c = (c.walk_at-walk.ensures.0, omega (arith, c.walk_at-walk.ensures.1))

pub next_pair-walk-requires : goal.next_pair-walk-requires
next_pair-walk-requires c = (c.loop.invariant.0, omega (arith, c.loop.invariant.1))

pub loop-preserved : goal.loop-preserved
loop-preserved c =
    let n = c.next_pair-walk.ensures.0 in
    (n.0, omega (arith, n.1, c.loop.invariant.1))

pub returns : goal.returns
returns c =
    let l = c.loop in
    let w = l.invariant.0 in
    (walking-number _ _ l.walk w ∙ ap (name_of (sheet_of _).segments) (omega (arith, w.fewer, l.invariant.1)), w.reached.named.within)
