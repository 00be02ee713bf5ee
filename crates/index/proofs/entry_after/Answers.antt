use mathlib.Core.Path.{◌≡◌, refl}
use Prim.Native.Nat.{◌-◌}
use Rattle.index.proofs.WalkLaws.{turn}
use Rattle.index.proofs.EndLaws.{ending-more, ending-end}
use native.Mathlib.Omega.{arith}
use Rattle.index.proofs.entry_after.Goals as goal

pub loop-init : goal.loop-init
loop-init c =
    let e : c.args.count - 0 ≡ c.args.count = omega arith in
    rw e (record { within = c.requires.0; whole = c.requires.1; same = refl })

pub next_entry-at-requires : goal.next_entry-at-requires
next_entry-at-requires c = (turn _ _ _ (omega arith) c.loop.invariant.whole).fits

pub loop-preserved : goal.loop-preserved
loop-preserved c =
    ending-more _ _ _ _ _ (omega arith) c.loop.invariant (omega arith) _ c.next_entry-at.ensures

pub returns : goal.returns
returns c = let l = c.loop in (ending-end _ _ _ _ l.invariant (omega arith), l.invariant.within)
