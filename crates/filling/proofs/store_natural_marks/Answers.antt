use mathlib.Core.Path.{refl, sym, ap, ◌∙◌}
use Prim.Native.Nat.{◌-◌}
use native.Mathlib.Omega.{arith}
use borrow.Author.Tests.{ltb-true}
use lib.ListN.{length}
use lib.Seq.{length-sets}
use Rattle.voice.specs.Voice.{voice_of}
use Rattle.marks.specs.PitchMarks.{most_marks}
use Rattle.filling.proofs.MarkLaws.{units-done, storing-first, storing-unit, storing-next, storing-done}
use Rattle.filling.proofs.store_natural_marks.Goals as goal

pub sample-sampled-requires : goal.sample-sampled-requires
sample-sampled-requires c = let q = c.requires in let t = q.two in (q.selects.places, omega arith)

pub first_unit-walk-requires : goal.first_unit-walk-requires
first_unit-walk-requires c = let q = c.requires in let t = q.two in (q.selects.places, omega arith)

pub loop-by-init : goal.loop-by-init
loop-by-init c = (c.first_unit-walk.ensures.walking _, (storing-first _ _ _ _ _ _ c.requires c.first_unit-walk.ensures, refl))

pub next_unit-step-requires : goal.next_unit-step-requires
next_unit-step-requires c =
    let q = c.requires in
    (q.selects.searchable, (q.selects.places, (c.sample-sampled.ensures, (c.loop-by.invariant.0, ltb-true 0 _ (sym c.has_unit.ensures ∙ c.loop-by-test.true)))))

pub store_unit_marks-place-requires : goal.store_unit_marks-place-requires
store_unit_marks-place-requires c =
    let n = c.next_unit-step in
    storing-unit c.args.file.now c.args.by.voice c.requires.selects.searchable.opened c.loop-by.place c.loop-by.i _ c.loop-by.marks _ c.loop-by.invariant.1.0
    n.result.unit _ n.ensures.units n.ensures.inside

pub overflow_sub-i : goal.overflow_sub-i
overflow_sub-i c = c.next_unit-step.ensures.inside.rising

pub overflow_add-i : goal.overflow_add-i
overflow_add-i c =
    let n = c.next_unit-step in
    let u = storing-unit c.args.file.now c.args.by.voice c.requires.selects.searchable.opened c.loop-by.place c.loop-by.i _ c.loop-by.marks _ c.loop-by.invariant.1.0
    n.result.unit _ n.ensures.units n.ensures.inside in
    omega (arith, u.room, c.loop-by.invariant.1.1, c.well_formed.1.1.1.1.0.0)

pub loop-by-smaller : goal.loop-by-smaller
loop-by-smaller c = let e = c.next_unit-step.ensures.fewer in omega (arith, e)

pub loop-by-preserved : goal.loop-by-preserved
loop-by-preserved c =
    let n = c.next_unit-step in (
      n.ensures.walking,
      (
        storing-next c.args.file.now c.args.by.voice c.requires.selects.searchable.opened c.loop-by.place c.loop-by.i _ c.loop-by.marks _ c.loop-by.invariant.1.0
            n.result.unit _ n.ensures.units n.ensures.inside _ _ c.store_unit_marks-place.ensures.0 c.store_unit_marks-place.ensures.1,
        ap length c.store_unit_marks-place.ensures.1 ∙ simp length-sets c.loop-by.invariant.1.1,
      ),
    )

pub shape_of-marks : goal.shape_of-marks
shape_of-marks c = c.loop-by.invariant.1.1

pub returns : goal.returns
returns c =
    let a = c.args in
    let e = units-done (voice_of a.file.now) a.by.fold a.sheet.now a.by.places.segments.count c.loop-by.walk c.has_unit.result c.has_unit.ensures c.loop-by-test.false in
    storing-done (voice_of a.file.now) c.loop-by.place (most_marks - c.loop-by.i) _ c.loop-by.marks c.loop-by.i _ c.loop-by.invariant.1.0 e
