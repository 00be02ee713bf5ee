use Rattle.std.specs.Prelude.{Result}
use Rattle.base.proofs.ResultLaws.{failed, holding}
use Rattle.std.proofs.Common.{◌≡◌, sym, ◌∙◌, subst, arith}
use Rattle.refusal.specs.declared.Refusal.{Refusal}
use Rattle.sheet.specs.Sheet.{sheet_of}
use Rattle.marks.specs.declared.Counts.{Counts}
use Rattle.marks.specs.PitchMarks.{pitch_marks}
use Rattle.marks.specs.Walking.{IsNext}
use Rattle.marks.specs.Checking.{checked_marks, Bounded}
use Rattle.marks.proofs.WalkLaws.{came}
use Rattle.marks.proofs.CheckLaws.{counting-refused, counting-done, counting-few, counting-mark, counting-first, counting-all}
use Rattle.marks.proofs.check_marks.Goals as goal

pub loop-m-init : goal.loop-m-init
loop-m-init c = counting-first _ _ _ _ _ c.requires c.fresh-walk.ensures

pub next-requires : goal.next-requires
next-requires c = c.loop-m.invariant.ahead

pub returns-in_err-m : goal.returns-in_err-m
returns-in_err-m c =
    let e = failed _ c.from_residual.ensures in
    let m = checked_marks c.args.end (pitch_marks c.args.rate (sheet_of c.args.sheet.now).targets) in
    subst (λ (r : Result Counts Refusal). (r ≡ m) × Bounded r) (sym e)
    (counting-refused _ _ _ _ _ c.loop-m.invariant _ c.in_err-m.ensures ∙ counting-all _ _ _ _ _ c.requires c.fresh-walk.ensures, tt)

pub tallied-tally-requires : goal.tallied-tally-requires
tallied-tally-requires c = let i = c.loop-m.invariant in
    (i.fewer, counting-few _ _ _ _ _ i _ _ (came c.next.ensures c.in_ok-m.was c.in-Some.is))

pub loop-m-smaller : goal.loop-m-smaller
loop-m-smaller c = let s = came c.next.ensures c.in_ok-m.was c.in-Some.is in omega (arith, s.counted)

pub loop-m-preserved : goal.loop-m-preserved
loop-m-preserved c = counting-mark _ _ _ _ _ c.loop-m.invariant _ _ (came c.next.ensures c.in_ok-m.was c.in-Some.is) _ c.tallied-tally.ensures

pub returns : goal.returns
returns c = let i = c.loop-m.invariant in
    let n = i.counted in
    (counting-done _ _ _ _ _ i (subst (IsNext c.args.sheet.now c.loop-m.walk) (holding c.in_ok-m.was c.in_default.is) c.next.ensures) ∙ counting-all _ _ _ _ _ c.requires c.fresh-walk.ensures, (omega arith, i.fewer, i.low))
