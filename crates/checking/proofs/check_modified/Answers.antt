use mathlib.Core.Path.{sym, subst, ◌∙◌}
use Rattle.base.proofs.ResultLaws.{failed}
use Rattle.checking.specs.Joining.{Joins}
use Rattle.checking.proofs.ModifiedLaws.{ends-refused, marks-joined}
use Rattle.checking.proofs.check_modified.Goals as goal

pub returns-in_err-end : goal.returns-in_err-end
returns-in_err-end c = λ v fold e.
    subst (Joins _) (sym (failed _ c.from_residual.ensures)) (ends-refused v _ _ _ (sym (c.check_ends.ensures.0 v fold e) ∙ c.in_err-end.was))

pub returns : goal.returns
returns c =
    let k = c.check_marks in
    λ v fold e. marks-joined v _ _ _ e _ (sym (c.check_ends.ensures.0 v fold e) ∙ c.in_ok-end.was) k.result k.ensures.0 k.ensures.1
