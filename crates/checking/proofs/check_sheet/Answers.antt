use mathlib.Core.Path.{sym, ap, ◌∙◌}
use Rattle.base.proofs.ResultLaws.{failed}
use Rattle.sheet.specs.Places.{refusal_of}
use Rattle.checking.proofs.CheckLaws.{read-refusal, sheet-refused, refused-checked}
use Rattle.checking.proofs.check_sheet.Goals as goal

pub check_marks-requires : goal.check_marks-requires
check_marks-requires c =
    (c.requires.0, (sym c.read_sheet.ensures.0 ∙ c.in_ok-places.was, c.requires.1))

pub returns-in_err-places : goal.returns-in_err-places
returns-in_err-places c =
    failed _ c.from_residual.ensures
    ∙ refused-checked _ _ _ _
    (sheet-refused _ _ _ _ c.requires.0.fit (sym (read-refusal _) ∙ ap refusal_of (sym c.read_sheet.ensures.0 ∙ c.in_err-places.was)))
