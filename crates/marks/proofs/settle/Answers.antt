use Rattle.std.specs.Prelude.{Ok}
use Rattle.std.proofs.Common.{◌≡◌, false, sym, refl, ◌∙◌, subst, arith}
use Rattle.base.proofs.ResultLaws.{failed}
use Rattle.marks.specs.Walking.{on_way, Advanced, IsSettled}
use Rattle.marks.proofs.WalkLaws.{coming-none}
use Rattle.marks.proofs.settle.Goals as goal
use Rattle.marks.proofs.settle.Goals.{Else-walk-eq0, In_ok-walk, Then-walk-eq0}

-- the walk is not on the way to a target
idle : (c : Then-walk-eq0) → on_way c.loop-walk.walk ≡ false
idle c = sym c.is_on_way.ensures ∙ c.loop-walk-test.true

-- the walk is not on the way to a target
idle_2 : (c : Else-walk-eq0) → on_way c.loop-walk.walk ≡ false
idle_2 c = sym c.is_on_way.ensures ∙ c.loop-walk-test.true

-- the walk has gone on to the next target
gone : (c : In_ok-walk) → Advanced c.args.sheet.now c.loop-walk.walk (Ok c.in_ok-walk.walk)
gone c = subst (Advanced _ _) c.in_ok-walk.was c.advance.ensures

pub loop-walk-init : goal.loop-walk-init
loop-walk-init c = (refl, c.requires, refl)

pub returns-then-walk-eq0 : goal.returns-then-walk-eq0
returns-then-walk-eq0 c = let l = c.loop-walk in sym l.invariant.0 ∙ coming-none _ _ l.invariant.1 (idle c) c.if-walk-eq0.true

pub advance-requires : goal.advance-requires
advance-requires c = (c.loop-walk.invariant.1, omega arith, idle_2 c)

pub returns-in_err-walk : goal.returns-in_err-walk
returns-in_err-walk c =
    let e = sym c.loop-walk.invariant.0 ∙ subst (Advanced c.args.sheet.now c.loop-walk.walk) c.in_err-walk.was c.advance.ensures in
    subst (IsSettled _ _) (sym (failed _ c.from_residual.ensures)) e

pub loop-walk-smaller : goal.loop-walk-smaller
loop-walk-smaller c = let a = gone c in omega (arith, a.3)

pub loop-walk-preserved : goal.loop-walk-preserved
loop-walk-preserved c = let l = c.loop-walk in
    let a = gone c in
    (a.0 ∙ l.invariant.0, a.1, a.2 ∙ l.invariant.2)

pub returns : goal.returns
returns c = (c.loop-walk.invariant.0, c.loop-walk.invariant.1, c.loop-walk.invariant.2, sym c.is_on_way.ensures ∙ c.loop-walk-test.false)
