use Rattle.base.proofs.ListLaws.{every-pass, every-fail, every_one}
use mathlib.Core.Path.{sym, ap, ◌∙◌}
use Rattle.voice.specs.Header.{good_numbers, good_scales}
use Rattle.voice.specs.Header.{good_header}
use borrow.Author.Tests.{lt-leb, le-leb}
use Rattle.voice.proofs.header.is_good.Goals as goal

pub returns-then-bytes-lt40 : goal.returns-then-bytes-lt40
unfolding good_header
returns-then-bytes-lt40 c = sym (every-fail _ _ (lt-leb 40 _ c.if-bytes-lt40.true))

pub returns-then-has_good_numbers : goal.returns-then-has_good_numbers
unfolding good_header
returns-then-has_good_numbers c =
    let h = c.header_of-h.ensures in
    let numbers = ap good_numbers (sym h) ∙ sym c.has_good_numbers.ensures ∙ c.if-has_good_numbers.true in
    c.has_good_scales.ensures ∙ ap good_scales h ∙ sym (every-pass _ _ (le-leb 40 _ c.if-bytes-lt40.false) ∙ every-pass _ _ numbers ∙ every_one _)

pub returns-else-has_good_numbers : goal.returns-else-has_good_numbers
unfolding good_header
returns-else-has_good_numbers c =
    let h = c.header_of-h.ensures in
    let numbers = ap good_numbers (sym h) ∙ sym c.has_good_numbers.ensures ∙ c.if-has_good_numbers.false in
    c.if-has_good_numbers.false ∙ sym (every-pass _ _ (le-leb 40 _ c.if-bytes-lt40.false) ∙ every-fail _ _ numbers)
