use Rattle.std.proofs.Common.{sym, ap, arith}
use Rattle.std.proofs.lemmas.Result.{err_from_is_err_and}
use Rattle.sheet.specs.Places.{answer_in}
use Rattle.sheet.proofs.PlaceLaws.{segments-refused, targets-refused, bytes-over, both_read}
use Rattle.sheet.proofs.ReadLaws.{answer-number}
use Rattle.sheet.proofs.read_sheet.Goals as goal

pub returns-in_err-segments : goal.returns-in_err-segments
returns-in_err-segments c =
    let p = err_from_is_err_and c.from_residual.result c.from_residual.ensures.1 in
    rw (p.1, p.2) (answer-number _ _ (sym (ap answer_in (segments-refused _ c.in_err-segments.ensures))))

pub returns-in_err-targets : goal.returns-in_err-targets
returns-in_err-targets c =
    let p = err_from_is_err_and c.from_residual-in_err-targets.result c.from_residual-in_err-targets.ensures.1 in
    rw (p.1, p.2) (answer-number _ _ (sym (ap answer_in (targets-refused _ c.in_ok-segments.ensures c.in_err-targets.ensures))))

pub returns-then-end-sheet : goal.returns-then-end-sheet
returns-then-end-sheet c =
    answer-number _ _ (sym (ap answer_in (bytes-over _ c.in_ok-segments.ensures c.in_ok-targets.ensures (omega arith))))

pub returns : goal.returns
returns c =
    answer-number _ _ (sym (ap answer_in (both_read _ c.in_ok-segments.ensures c.in_ok-targets.ensures (omega arith))))
