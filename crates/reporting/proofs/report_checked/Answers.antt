use mathlib.Core.Path.{sym}
use native.Mathlib.Omega.{arith}
use lib.Seq.{length-take-le}
use Rattle.reporting.proofs.JoinLaws.{none-reported, can-join, report-over}
use Rattle.reporting.proofs.report_checked.Goals as goal

pub returns-then-count-eq0 : goal.returns-then-count-eq0
returns-then-count-eq0 c =
    none-reported c.args.file.now c.args.sheet.now c.args.settings c.args.fit c.requires.0 c.if-count-eq0.true
    c.args.lines.now

pub slice_bounds-report_found-end-2 : goal.slice_bounds-report_found-end-2
slice_bounds-report_found-end-2 c = sym (length-take-le _ c.args.lines.now c.requires.1.0)

pub report_found-requires : goal.report_found-requires
report_found-requires c =
    let p = c.requires.0 in
    let l = c.if-count-eq0.false in (
      (p.opened, c.requires.1.1),
      (p.places, can-join c.args.file.now c.args.sheet.now c.args.settings c.args.fit c.requires.0 (omega (arith, l)) _ (length-take-le _ c.args.lines.now c.requires.1.0)),
    )

pub returns : goal.returns
returns c =
    let l = c.if-count-eq0.false in
    report-over c.args.file.now c.args.sheet.now c.args.settings c.args.fit c.requires.0 (omega (arith, l)) _ c.args.lines.now
    c.report_found.ensures
