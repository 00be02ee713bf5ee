use mathlib.Core.Path.{refl, sym, ◌∙◌}
use native.Mathlib.Omega.{arith}
use borrow.Author.Tests.{ltb-true}
use Rattle.voice.specs.Voice.{voice_of}
use Rattle.filling.specs.Filling.{lent_periods}
use Rattle.filling.proofs.MarkLaws.{units-done}
use Rattle.filling.proofs.TakeLaws.{taking-first, taking-done, none-held, can-take, take_next}
use Rattle.filling.proofs.take_units.Goals as goal

pub sample-sampled-requires : goal.sample-sampled-requires
sample-sampled-requires c = let q = c.requires in (q.selects.places, q.some)

pub first_unit-walk-requires : goal.first_unit-walk-requires
first_unit-walk-requires c = let q = c.requires in (q.selects.places, q.some)

pub loop-by-init : goal.loop-by-init
loop-by-init c = (
  c.first_unit-walk.ensures.walking _,
  (
    taking-first c.args.natural c.args.file.now c.args.index.now c.args.sheet.now c.args.by c.args.marks.now (lent_periods c.args.sizes.now c.args.rows.now c.args.excitation.now c.args.decoded.now) _ c.requires c.first_unit-walk.ensures,
    (none-held c.args.file.now c.args.by.voice c.requires.selects.searchable.opened c.args.decoded.now, (refl, (refl, (refl, refl)))),
  ),
)

pub next_unit-step-requires : goal.next_unit-step-requires
next_unit-step-requires c =
    let q = c.requires in
    (q.selects.searchable, (q.selects.places, (c.sample-sampled.ensures, (c.loop-by.invariant.0, ltb-true 0 _ (sym c.has_unit.ensures ∙ c.loop-by-test.true)))))

pub join_unit-unit-requires : goal.join_unit-unit-requires
join_unit-unit-requires c =
    (c.requires.selects.searchable.opened, (c.next_unit-step.ensures.inside, c.loop-by.invariant.1.0.end_low))

pub take_unit-at-requires : goal.take_unit-at-requires
take_unit-at-requires c =
    let n = c.next_unit-step in
    let j = c.join_unit-unit in
    can-take c.args.file.now c.args.by.voice c.requires.selects.searchable.opened c.args.natural _ c.loop-by.end c.loop-by.at c.args.marks.now c.loop-by.sizes c.loop-by.rows c.loop-by.excitation c.loop-by.decoded _ c.loop-by.invariant.1.0 n.result.unit _ n.ensures.units j.result j.ensures n.ensures.inside c.loop-by.invariant.1.1.0

pub loop-by-smaller : goal.loop-by-smaller
loop-by-smaller c = let e = c.next_unit-step.ensures.fewer in omega (arith, e)

pub loop-by-preserved : goal.loop-by-preserved
loop-by-preserved c =
    let n = c.next_unit-step in
    let j = c.join_unit-unit in
    let t = c.take_unit-at in
    let m = t.auto in (
      n.ensures.walking,
      (
        take_next c.args.file.now c.args.by.voice c.requires.selects.searchable.opened c.args.natural _ c.loop-by.end c.loop-by.at c.args.marks.now c.loop-by.sizes c.loop-by.rows c.loop-by.excitation c.loop-by.decoded _ c.loop-by.invariant.1.0 n.result.unit _ n.ensures.units j.result j.ensures t.result _ _ _ _ t.ensures m.decoded,
        (t.ensures.held, (m.sizes ∙ c.loop-by.invariant.1.1.1.0, (m.rows ∙ c.loop-by.invariant.1.1.1.1.0, (m.excitation ∙ c.loop-by.invariant.1.1.1.1.1.0, m.decoded ∙ c.loop-by.invariant.1.1.1.1.1.1)))),
      ),
    )

pub shape_of-sizes : goal.shape_of-sizes
shape_of-sizes c = c.loop-by.invariant.1.1.1.0

pub shape_of-rows : goal.shape_of-rows
shape_of-rows c = c.loop-by.invariant.1.1.1.1.0

pub shape_of-excitation : goal.shape_of-excitation
shape_of-excitation c = c.loop-by.invariant.1.1.1.1.1.0

pub shape_of-decoded : goal.shape_of-decoded
shape_of-decoded c = c.loop-by.invariant.1.1.1.1.1.1

pub returns : goal.returns
returns c =
    let a = c.args in
    let e = units-done (voice_of a.file.now) a.by.fold a.sheet.now a.by.places.segments.count c.loop-by.walk c.has_unit.result c.has_unit.ensures c.loop-by-test.false in
    taking-done (voice_of a.file.now) a.natural _ c.loop-by.end c.loop-by.at.taken c.loop-by.at.mark _ (lent_periods c.loop-by.sizes c.loop-by.rows c.loop-by.excitation c.loop-by.decoded) _ c.loop-by.invariant.1.0 e
