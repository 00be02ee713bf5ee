use Rattle.std.specs.Prelude.{Ok}
use mathlib.Core.Path.{sym, ap, ◌∙◌}
use Rattle.base.proofs.ListLaws.{failing-passed, failing-here}
use Rattle.voice.specs.declared.DiphoneVoice.{DiphoneVoice}
use Rattle.voice.specs.Header.{good_header}
use Rattle.voice.specs.Voice.{places_of}
use Rattle.voice.specs.Opening.{answer_opening}
use Rattle.voice.proofs.TableLaws.{numbers_of}
use Rattle.opening.proofs.IndexLaws.{none-fails}
use Rattle.opening.proofs.check_tables.Goals as goal

pub returns-then-not-is_good : goal.returns-then-not-is_good
returns-then-not-is_good c =
    let f = c.args.file.now in
    let h = ap good_header (sym c.header_bytes.ensures) ∙ sym c.is_good.ensures in
    ap (answer_opening (places_of f)) (sym (failing-here _ _ _ (h ∙ c.if-not-is_good.true)))

pub places_of-d-requires : goal.places_of-d-requires
places_of-d-requires c =
    let f = c.args.file.now in
    let h = ap good_header (sym c.header_bytes.ensures) ∙ sym c.is_good.ensures in
    h ∙ c.if-not-is_good.false

pub is_good-requires-2 : goal.is_good-requires-2
is_good-requires-2 c =
    let f = c.args.file.now in
    let h = ap good_header (sym c.header_bytes.ensures) ∙ sym c.is_good.ensures in
    (c.places_of-d.ensures, numbers_of f _ c.places_of-d.ensures (h ∙ c.if-not-is_good.false))

pub returns-then-not-is_good-2 : goal.returns-then-not-is_good-2
returns-then-not-is_good-2 c =
    let f = c.args.file.now in
    let h = ap good_header (sym c.header_bytes.ensures) ∙ sym c.is_good.ensures in
    ap (answer_opening (places_of f)) (sym (failing-passed _ _ _ (h ∙ c.if-not-is_good.false) ∙ failing-here _ _ _ (sym c.is_good-2.ensures ∙ c.if-not-is_good-2.true)))

pub returns-then-not-has_good_index : goal.returns-then-not-has_good_index
returns-then-not-has_good_index c =
    let f = c.args.file.now in
    let h = ap good_header (sym c.header_bytes.ensures) ∙ sym c.is_good.ensures in
    ap (answer_opening (places_of f)) (sym (failing-passed _ _ _ (h ∙ c.if-not-is_good.false) ∙ failing-passed _ _ _ (sym c.is_good-2.ensures ∙ c.if-not-is_good-2.false) ∙ failing-here _ _ _ (sym c.has_good_index.ensures ∙ c.if-not-has_good_index.true)))

pub returns : goal.returns
returns c =
    let f = c.args.file.now in
    let h = ap good_header (sym c.header_bytes.ensures) ∙ sym c.is_good.ensures in
    ap (λ (x : DiphoneVoice). Ok x) c.places_of-d.ensures ∙ ap (answer_opening (places_of f)) (sym (failing-passed _ _ _ (h ∙ c.if-not-is_good.false) ∙ failing-passed _ _ _ (sym c.is_good-2.ensures ∙ c.if-not-is_good-2.false) ∙ failing-passed _ _ _ (sym c.has_good_index.ensures ∙ c.if-not-has_good_index.false) ∙ none-fails))
