use mathlib.Core.Path.{sym, ◌∙◌}
use native.Mathlib.Omega.{arith}
use borrow.Author.Tests.{ltb-true}
use Rattle.voice.specs.Voice.{voice_of}
use Rattle.filling.proofs.MarkLaws.{units-done}
use Rattle.reporting.proofs.UnitLaws.{reporting-first, reporting-done, can-report, reporting-next}
use Rattle.reporting.proofs.report_units.Goals as goal

pub sample-sampled-requires : goal.sample-sampled-requires
sample-sampled-requires c = let q = c.requires in (q.selects.places, q.some)

pub first_unit-walk-requires : goal.first_unit-walk-requires
first_unit-walk-requires c = let q = c.requires in (q.selects.places, q.some)

pub loop-by-init : goal.loop-by-init
loop-by-init c = (
  c.first_unit-walk.ensures.walking _,
  reporting-first c.args.natural c.args.file.now c.args.index.now c.args.sheet.now c.args.by c.args.count c.args.lines.now _
      c.requires c.first_unit-walk.ensures,
)

pub next_unit-step-requires : goal.next_unit-step-requires
next_unit-step-requires c =
    let q = c.requires in
    (q.selects.searchable, (q.selects.places, (c.sample-sampled.ensures, (c.loop-by.invariant.0, ltb-true 0 _ (sym c.has_unit.ensures ∙ c.loop-by-test.true)))))

pub join_unit-unit-requires : goal.join_unit-unit-requires
join_unit-unit-requires c =
    (c.requires.selects.searchable.opened, (c.next_unit-step.ensures.inside, c.loop-by.invariant.1.end_low))

pub report_unit-at-requires : goal.report_unit-at-requires
report_unit-at-requires c =
    let a = c.args in
    let n = c.next_unit-step in
    let j = c.join_unit-unit in
    can-report (voice_of a.file.now) a.natural _ c.loop-by.end a.count c.loop-by.at c.loop-by.lines _ c.loop-by.invariant.1 n.result.unit _ n.ensures.units j.result j.ensures
    n.ensures.inside.rising

pub loop-by-smaller : goal.loop-by-smaller
loop-by-smaller c = let e = c.next_unit-step.ensures.fewer in omega (arith, e)

pub loop-by-preserved : goal.loop-by-preserved
loop-by-preserved c =
    let a = c.args in
    let n = c.next_unit-step in
    let j = c.join_unit-unit in
    let r = c.report_unit-at in (
      n.ensures.walking,
      reporting-next (voice_of a.file.now) a.natural _ c.loop-by.end a.count c.loop-by.at c.loop-by.lines _ c.loop-by.invariant.1 n.result.unit _ n.ensures.units j.result
          j.ensures r.result _ r.ensures,
    )

pub shape_of-lines : goal.shape_of-lines
shape_of-lines c = c.loop-by.invariant.1.long ∙ sym c.requires.long

pub returns : goal.returns
returns c =
    let a = c.args in
    let e = units-done (voice_of a.file.now) a.by.fold a.sheet.now a.by.places.segments.count c.loop-by.walk c.has_unit.result c.has_unit.ensures
    c.loop-by-test.false in
    reporting-done (voice_of a.file.now) a.natural _ c.loop-by.end a.count c.loop-by.at c.loop-by.lines _ c.loop-by.invariant.1 e
