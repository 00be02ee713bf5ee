use mathlib.Core.Path.{◌≡◌, refl, ◌∙◌}
use mathlib.Core.Bool.{◌&&◌}
use Rattle.base.specs.Text.{ascii}
use Rattle.voice.specs.Opening.{has_needed}
use Rattle.voice.proofs.NeededLaws.{has, found, passed_on, failed_on, every-five}
use Rattle.voice.proofs.sections.has_needed.Goals as goal
use Rattle.voice.proofs.sections.has_needed.Goals.{then-is_some, else-is_some, then-is_some-2, else-is_some-2, then-is_some-3, else-is_some-3}

pub returns-then-is_some-4 : goal.returns-then-is_some-4
unfolding has_needed
returns-then-is_some-4 c =
    let f = c.args.file.now in
    let header = has f (ascii "sts.header") in
    let lpc = has f (ascii "sts.lpc") in
    let offsets = has f (ascii "sts.resoffs") in
    let residual = has f (ascii "sts.res") in
    let one : c.is_some.result ≡ header = found c.is_some.ensures c.find.ensures in
    let two : c.if-is_some.value ≡ (header && lpc) =
    elim c.if-is_some.branch [
      | then-is_some w ↦ passed_on w.value-is w.if-is_some.true one (found w.is_some-then-is_some.ensures w.find-then-is_some.ensures)
      | else-is_some w ↦ failed_on _ w.value-is w.if-is_some.false one
    ] in
    let three : c.if-is_some-2.value ≡ ((header && lpc) && offsets) =
    elim c.if-is_some-2.branch [
      | then-is_some-2 w ↦ passed_on w.value-is w.if-is_some-2.true two (found w.is_some-then-is_some-2.ensures w.find-then-is_some-2.ensures)
      | else-is_some-2 w ↦ failed_on _ w.value-is w.if-is_some-2.false two
    ] in
    let four : c.if-is_some-3.value ≡ (((header && lpc) && offsets) && residual) =
    elim c.if-is_some-3.branch [
      | then-is_some-3 w ↦ passed_on w.value-is w.if-is_some-3.true three (found w.is_some-then-is_some-3.ensures w.find-then-is_some-3.ensures)
      | else-is_some-3 w ↦ failed_on _ w.value-is w.if-is_some-3.false three
    ] in
    passed_on refl c.if-is_some-4.true four (found c.is_some-then-is_some-4.ensures c.find-then-is_some-4.ensures) ∙ every-five _ _ _ _ _

pub returns-else-is_some-4 : goal.returns-else-is_some-4
unfolding has_needed
returns-else-is_some-4 c =
    let f = c.args.file.now in
    let header = has f (ascii "sts.header") in
    let lpc = has f (ascii "sts.lpc") in
    let offsets = has f (ascii "sts.resoffs") in
    let residual = has f (ascii "sts.res") in
    let one : c.is_some.result ≡ header = found c.is_some.ensures c.find.ensures in
    let two : c.if-is_some.value ≡ (header && lpc) =
    elim c.if-is_some.branch [
      | then-is_some w ↦ passed_on w.value-is w.if-is_some.true one (found w.is_some-then-is_some.ensures w.find-then-is_some.ensures)
      | else-is_some w ↦ failed_on _ w.value-is w.if-is_some.false one
    ] in
    let three : c.if-is_some-2.value ≡ ((header && lpc) && offsets) =
    elim c.if-is_some-2.branch [
      | then-is_some-2 w ↦ passed_on w.value-is w.if-is_some-2.true two (found w.is_some-then-is_some-2.ensures w.find-then-is_some-2.ensures)
      | else-is_some-2 w ↦ failed_on _ w.value-is w.if-is_some-2.false two
    ] in
    let four : c.if-is_some-3.value ≡ (((header && lpc) && offsets) && residual) =
    elim c.if-is_some-3.branch [
      | then-is_some-3 w ↦ passed_on w.value-is w.if-is_some-3.true three (found w.is_some-then-is_some-3.ensures w.find-then-is_some-3.ensures)
      | else-is_some-3 w ↦ failed_on _ w.value-is w.if-is_some-3.false three
    ] in
    failed_on (has f (ascii "dip.index")) refl c.if-is_some-4.false four ∙ every-five _ _ _ _ _
