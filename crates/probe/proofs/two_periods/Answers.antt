use mathlib.Core.Path.{◌≡◌, sym, ◌∙◌}
use Prim.Native.Nat.{◌-◌, ◌*◌}
use native.Mathlib.Omega.{arith}
use lib.ListN.{length}
use lib.Seq.{length-take-le}
use Rattle.base.proofs.ListLaws.{length_part}
use Rattle.probe.proofs.FilterLaws.{ready-first, ready-second, two-spoken, two-same}
use Rattle.probe.proofs.two_periods.Goals as goal

pub slice_bounds-resynthesise_period-end : goal.slice_bounds-resynthesise_period-end
slice_bounds-resynthesise_period-end c =
    sym (length-take-le (2 * c.args.order) c.args.rows.now (omega (arith, c.requires.whole)))

pub slice_bounds-resynthesise_period-end-2 : goal.slice_bounds-resynthesise_period-end-2
slice_bounds-resynthesise_period-end-2 c =
    sym (length-take-le c.args.first c.args.excitation.now c.requires.within)

pub resynthesise_period-after-requires : goal.resynthesise_period-after-requires
resynthesise_period-after-requires c =
    let row = length-take-le (2 * c.args.order) c.args.rows.now (omega (arith, c.requires.whole)) in
    let e = length-take-le c.args.first c.args.excitation.now c.requires.within in
    ready-first _ _ _ _ c.requires.low c.fresh-state.result c.fresh-state.ensures _ _ _ row (omega (arith, e, c.requires.room, c.requires.within)) (omega (arith, e, c.requires.room, c.requires.within, c.well_formed))

pub overflow_mul-at : goal.overflow_mul-at
overflow_mul-at c = omega (arith, c.requires.within, c.requires.room, c.well_formed)

pub resynthesise_period-requires : goal.resynthesise_period-requires
resynthesise_period-requires c =
    let row₁ = length-take-le (2 * c.args.order) c.args.rows.now (omega (arith, c.requires.whole)) in
    let e₁ = length-take-le c.args.first c.args.excitation.now c.requires.within in
    let row₂ = length_part c.args.rows.now (2 * c.args.order) (length c.args.rows.now - 2 * c.args.order) (omega (arith, c.requires.whole)) in
    let e₂ = length_part c.args.excitation.now c.args.first (length c.args.excitation.now - c.args.first) (omega (arith, c.requires.within)) in
    let d = c.resynthesise_period-after.new.samples in
    let d₁ : length d ≡ length c.args.samples.now = c.resynthesise_period-after.auto.samples in
    let d₂ = length_part d (2 * c.args.first) (length d - 2 * c.args.first) (omega (arith, d₁, c.requires.within, c.requires.room)) in
    ready-second _ _ _ _ c.requires.low c.fresh-state.result c.fresh-state.ensures _ _ row₁ c.resynthesise_period-after.result c.resynthesise_period-after.ensures.value _ _ _
    (omega (arith, row₂, c.requires.whole))
    (omega (arith, e₂, d₁, d₂, c.requires.within, c.requires.room))
    (omega (arith, e₁, e₂, c.requires.within, c.requires.room, c.well_formed))

pub returns : goal.returns
returns c =
    let row₁ = length-take-le (2 * c.args.order) c.args.rows.now (omega (arith, c.requires.whole)) in
    let e₁ = length-take-le c.args.first c.args.excitation.now c.requires.within in
    two-spoken _ _ _ _ c.requires.low c.fresh-state.result c.fresh-state.ensures _ _ row₁ c.resynthesise_period-after.result _ _ c.args.samples.now _ _ c.resynthesise_period-after.ensures.value (omega (arith, e₁)) c.resynthesise_period-after.ensures.samples_after c.resynthesise_period.ensures.samples_after
    ∙ two-same _ _ _ _ _ c.fresh-state.result _ _ _ c.fresh-state.ensures c.filter_of.ensures
