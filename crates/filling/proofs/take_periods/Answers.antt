use mathlib.Core.Path.{◌∙◌}
use Prim.Native.Nat.{◌*◌}
use native.Mathlib.Omega.{arith}
use lib.ListN.{length-take}
use Rattle.filling.specs.Filling.{lent_periods}
use Rattle.filling.proofs.JoinLaws.{marks-within, periods-none, units-able, units-taken}
use Rattle.filling.proofs.take_periods.Goals as goal

pub returns-then-count-lt2 : goal.returns-then-count-lt2
returns-then-count-lt2 c =
    periods-none c.args.join c.args.file.now c.args.index.now c.args.sheet.now c.args.by c.args.count c.args.marks.now (lent_periods c.args.sizes.now c.args.rows.now c.args.excitation.now c.args.decoded.now) c.requires c.if-count-lt2.true

pub overflow_mul-n : goal.overflow_mul-n
overflow_mul-n c =
    let w = marks-within c.args.join c.args.file.now c.args.index.now c.args.sheet.now c.args.by c.args.count c.args.marks.now (lent_periods c.args.sizes.now c.args.rows.now c.args.excitation.now c.args.decoded.now) c.requires in
    omega (arith, w, c.well_formed.1.1.1.1.1.1.0.0)

pub slice_bounds-take_units-end : goal.slice_bounds-take_units-end
slice_bounds-take_units-end c =
    let w = marks-within c.args.join c.args.file.now c.args.index.now c.args.sheet.now c.args.by c.args.count c.args.marks.now (lent_periods c.args.sizes.now c.args.rows.now c.args.excitation.now c.args.decoded.now) c.requires in
    omega (arith, w, length-take (4 * c.args.count) c.args.marks.now)

pub take_units-requires : goal.take_units-requires
take_units-requires c =
    units-able c.args.join c.args.file.now c.args.index.now c.args.sheet.now c.args.by c.args.count c.args.marks.now (lent_periods c.args.sizes.now c.args.rows.now c.args.excitation.now c.args.decoded.now) c.requires c.if-count-lt2.false _ c.is_simple-natural.ensures

pub returns : goal.returns
returns c =
    c.take_units.ensures ∙ units-taken c.args.join c.args.file.now c.args.index.now c.args.sheet.now c.args.by c.args.count c.args.marks.now (lent_periods c.args.sizes.now c.args.rows.now c.args.excitation.now c.args.decoded.now) c.requires c.if-count-lt2.false _ c.is_simple-natural.ensures
