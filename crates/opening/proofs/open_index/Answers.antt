use mathlib.Core.Path.{◌∙◌}
use lib.ListN.{length}
use Rattle.opening.proofs.IndexLaws.{short-open, fits_by, filled-open}
use Rattle.opening.proofs.open_index.Goals as goal

pub returns-then-index-d : goal.returns-then-index-d
returns-then-index-d c = short-open c.args.file.now c.args.d c.requires c.args.index.now c.if-index-d.true

pub fill_index-requires : goal.fill_index-requires
fill_index-requires c = (c.requires, fits_by c.args.file.now c.args.d c.requires (length c.args.index.now) c.if-index-d.false)

pub returns : goal.returns
returns c =
    let h = filled-open c.args.file.now c.args.d c.requires c.args.index.now c.if-index-d.false in
    (h.0, c.fill_index.ensures ∙ h.1)
