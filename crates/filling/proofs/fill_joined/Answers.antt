use mathlib.Core.Path.{◌≡◌, ◌∙◌}
use lib.ListN.{take}
use Rattle.std.proofs.Common.{rules}
use Rattle.base.specs.Buffers.{over, flat}
use Rattle.base.specs.Bytes.{bytes_of}
use Rattle.filling.specs.Filling.{planned, lent_periods}
use Rattle.filling.proofs.JoinLaws.{all-marks, can-periods}
use Rattle.filling.proofs.fill_joined.Goals as goal

pub take_periods-requires : goal.take_periods-requires
take_periods-requires c =
    let a = c.args in
    let b = lent_periods a.sizes.now a.rows.now a.excitation.now a.decoded.now in
    let stored : c.store_marks.new.marks ≡ over (flat (bytes_of 4) (take a.count (planned a.join a.file.now a.sheet.now a.by).marks)) a.marks.now = search rules in
    can-periods a.join a.file.now a.index.now a.sheet.now a.by a.count a.marks.now _ b c.requires
    (stored ∙ all-marks a.join a.file.now a.index.now a.sheet.now a.by a.count _ b c.requires a.marks.now)

pub returns : goal.returns
returns c =
    let a = c.args in
    let b = lent_periods a.sizes.now a.rows.now a.excitation.now a.decoded.now in
    let stored : c.store_marks.new.marks ≡ over (flat (bytes_of 4) (take a.count (planned a.join a.file.now a.sheet.now a.by).marks)) a.marks.now = search rules in (
      stored ∙ all-marks a.join a.file.now a.index.now a.sheet.now a.by a.count _ b c.requires a.marks.now,
      c.take_periods.ensures,
    )
