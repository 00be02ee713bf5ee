use mathlib.Core.Path.{sym, ap, ◌∙◌}
use lib.ListN.{length}
use Rattle.base.proofs.ResultLaws.{failed}
use Rattle.voice.specs.Opening.{open_number}
use Rattle.voice.proofs.OpeningLaws.{open-number}
use Rattle.opening.proofs.IndexLaws.{open-answer, refused-answer, refused-open, refused-index}
use Rattle.opening.proofs.open.Goals as goal

pub open_index-requires : goal.open_index-requires
open_index-requires c = open-answer c.args.file.now _ (sym c.check.ensures ∙ c.in_ok-d.was)

pub returns-in_err-d : goal.returns-in_err-d
returns-in_err-d c =
    let f = c.args.file.now in
    let e = refused-answer f _ (sym c.check.ensures ∙ c.in_err-d.was) in
    let old = c.args.index.now in
    let r = failed _ c.from_residual.ensures ∙ sym (refused-open f _ e (length old)) in
    (r, sym (refused-index f _ e old), ap open_number r ∙ open-number f (length old))

pub returns : goal.returns
returns c =
    let s = c.args in
    (c.open_index.ensures.0, c.open_index.ensures.1, ap open_number c.open_index.ensures.0 ∙ open-number s.file.now (length s.index.now))
