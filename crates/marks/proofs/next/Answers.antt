use Rattle.base.proofs.ResultLaws.{failed, holding}
use Rattle.std.proofs.Common.{sym, ◌∙◌, subst}
use Rattle.marks.specs.Walking.{IsSettled, IsNext}
use Rattle.marks.proofs.WalkLaws.{IsMarked, marked-steps, same-steps}
use Rattle.marks.proofs.next.Goals as goal

pub returns-in_err-mark-in-Some : goal.returns-in_err-mark-in-Some
returns-in_err-mark-in-Some c = let s = subst (IsSettled c.args.sheet.now c.args.w) (holding c.in_ok-on.was c.in-Some.is) c.settle.ensures in
    let m = subst (IsMarked c.args.sheet.now c.in-Some.on s.1) (sym c.mark.ensures ∙ c.in_err-mark-in-Some.was) (marked-steps _ _ s.1 s.3) in
    subst (IsNext c.args.sheet.now c.args.w) (sym (failed _ c.from_residual-in_err-mark-in-Some.ensures)) (sym s.0 ∙ m)

pub returns-in_ok-mark-in-Some : goal.returns-in_ok-mark-in-Some
returns-in_ok-mark-in-Some c = let s = subst (IsSettled c.args.sheet.now c.args.w) (holding c.in_ok-on.was c.in-Some.is) c.settle.ensures in
    same-steps _ _ _ _ _ s.0 s.2 (subst (IsMarked c.args.sheet.now c.in-Some.on s.1) (sym c.mark.ensures ∙ c.in_ok-mark-in-Some.was) (marked-steps _ _ s.1 s.3))
