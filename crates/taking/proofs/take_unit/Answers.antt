use native.Mathlib.Omega.{arith}
use lib.Ieee.{of_bits}
use Rattle.taking.proofs.UnitLaws.{ran_out, mark-above, can-take, going_on, going-first, room_for, took}
use Rattle.std.proofs.Common.{rules}
use Rattle.taking.proofs.take_unit.Goals as goal

pub pace_of-pace-requires : goal.pace_of-pace-requires
pace_of-pace-requires c = let h = c.requires in (h.opened, (h.inside.rising, (h.inside.within, (h.short, h.low))))

pub loop-to-init : goal.loop-to-init
unfolding of_bits
loop-to-init c =
    let a = c.args in
    going-first a.natural a.file.now a.d a.unit a.end_before a.marks.now a.at a.sizes.now a.rows.now a.excitation.now a.decoded.now
    c.pace_of-pace.result c.share_end-end.result c.requires c.pace_of-pace.ensures c.share_end-end.ensures.0 c.share_end-end.ensures.1

pub u32_at-mark-requires : goal.u32_at-mark-requires
u32_at-mark-requires c = let w = c.loop-to.invariant.within in omega (arith, w, c.loop-to-test.true)

pub overflow_sub-size : goal.overflow_sub-size
overflow_sub-size c =
    let l = c.loop-to in
    let a = c.args in
    mark-above a.file.now a.d a.unit a.marks.now _ _ _ _ _ _ _ l.sizes l.rows l.excitation l.decoded l.to l.place l.invariant _
    c.loop-to-test.true c.u32_at-mark.ensures

pub nearest_period-p-requires : goal.nearest_period-p-requires
nearest_period-p-requires c =
    let h = c.requires in (h.opened, (h.inside.rising, h.inside.within))

pub take_period-front-requires : goal.take_period-front-requires
take_period-front-requires c =
    let l = c.loop-to in
    let a = c.args in
    let h = c.requires in
    can-take a.file.now a.d a.unit a.marks.now _ _ _ _ _ _ _ l.sizes l.rows l.excitation l.decoded l.to l.place l.invariant _
    c.loop-to-test.true c.u32_at-mark.ensures
    c.nearest_period-p.result h.opened c.nearest_period-p.ensures.1 (search rules) h.decoded_room
    (room_for a.natural a.file.now a.d a.unit a.end_before a.marks.now a.at a.sizes.now a.rows.now a.excitation.now a.decoded.now h)

pub overflow_add-to : goal.overflow_add-to
overflow_add-to c =
    let w = c.loop-to.invariant.within in
    omega (arith, w, c.loop-to-test.true, c.well_formed.1.1.1.1.1.0.0)

pub loop-to-preserved : goal.loop-to-preserved
loop-to-preserved c =
    let l = c.loop-to in
    let a = c.args in
    going_on a.file.now a.d a.unit a.marks.now _ _ _ _ _ _ _ l.sizes l.rows l.excitation l.decoded l.to l.place l.invariant _
    c.loop-to-test.true c.u32_at-mark.ensures
    c.nearest_period-p.result c.take_period-front.result _ _ _ _ _ c.requires.opened c.nearest_period-p.ensures.1 c.requires.decoded_room
    c.nearest_period-p.ensures.0 c.place_after-place.ensures c.take_period-front.ensures

pub shape_of-sizes : goal.shape_of-sizes
shape_of-sizes c = c.loop-to.invariant.sizes_long

pub shape_of-rows : goal.shape_of-rows
shape_of-rows c = c.loop-to.invariant.rows_long

pub shape_of-excitation : goal.shape_of-excitation
shape_of-excitation c = c.loop-to.invariant.excitation_long

pub shape_of-decoded : goal.shape_of-decoded
shape_of-decoded c = c.loop-to.invariant.decoded_long

pub returns : goal.returns
returns c =
    let l = c.loop-to in
    let a = c.args in
    took a.natural a.file.now a.d a.unit a.end_before a.marks.now a.at l.to
    a.sizes.now l.sizes a.rows.now l.rows a.excitation.now l.excitation a.decoded.now l.decoded
    (ran_out a.file.now a.d a.unit a.marks.now _ _ _ _ _ _ _ l.sizes l.rows l.excitation l.decoded l.to l.place l.invariant c.loop-to-test.false)
    l.invariant.held
