use native.Mathlib.Omega.{arith}
use Rattle.call.specs.Buffers.{lent}
use Rattle.filling.specs.Filling.{lent_periods}
use Rattle.filling.proofs.FillLaws.{index-room, few-filled, can-join, joined-filled}
use Rattle.filling.proofs.fill.Goals as goal

pub fill_index-requires : goal.fill_index-requires
fill_index-requires c = (c.requires.opened, index-room c.args.file.now c.args.sheet.now c.args.settings c.args.voice c.args.places c.args.need (lent c.args.index.now c.args.marks.now c.args.sizes.now c.args.rows.now c.args.excitation.now c.args.decoded.now) c.requires)

pub returns-then-places-lt2 : goal.returns-then-places-lt2
returns-then-places-lt2 c =
    few-filled c.args.file.now c.args.sheet.now c.args.settings c.args.voice c.args.places c.args.need (lent c.args.index.now c.args.marks.now c.args.sizes.now c.args.rows.now c.args.excitation.now c.args.decoded.now) c.requires _ c.fill_index.ensures c.if-places-lt2.true

pub fill_joined-requires : goal.fill_joined-requires
fill_joined-requires c =
    can-join c.args.file.now c.args.sheet.now c.args.settings c.args.voice c.args.places c.args.need (lent c.args.index.now c.args.marks.now c.args.sizes.now c.args.rows.now c.args.excitation.now c.args.decoded.now) c.requires c.if-places-lt2.false _ c.fill_index.ensures (omega (arith, c.well_formed.0.1))

pub returns : goal.returns
returns c =
    joined-filled c.args.file.now c.args.sheet.now c.args.settings c.args.voice c.args.places c.args.need (lent c.args.index.now c.args.marks.now c.args.sizes.now c.args.rows.now c.args.excitation.now c.args.decoded.now) c.requires c.if-places-lt2.false _ _ (lent_periods _ _ _ _) c.fill_index.ensures c.fill_joined.ensures.0 c.fill_joined.ensures.1
