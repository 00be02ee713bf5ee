use mathlib.Core.Path.{◌∙◌}
use Prim.Native.Nat.{◌*◌}
use Rattle.reporting.proofs.MarkLaws.{rest-long, rest_back}
use Rattle.reporting.proofs.JoinLaws.{can_store, can-report-units, lines-over}
use Rattle.reporting.proofs.report_joined.Goals as goal

pub store_marks-requires : goal.store_marks-requires
store_marks-requires c =
    can_store c.args.join c.args.file.now c.args.index.now c.args.sheet.now c.args.by c.args.count c.args.lines.now c.requires _
    (rest-long c.args.lines.now (12 * c.args.count))

pub report_units-requires : goal.report_units-requires
report_units-requires c =
    can-report-units c.args.join c.args.file.now c.args.index.now c.args.sheet.now c.args.by c.args.count c.args.lines.now c.requires _ c.is_simple-natural.ensures _
    (rest_back c.args.lines.now (12 * c.args.count) _ _ c.store_marks.ensures)

pub returns : goal.returns
returns c =
    c.report_units.ensures
    ∙ lines-over c.args.join c.args.file.now c.args.index.now c.args.sheet.now c.args.by c.args.count c.args.lines.now c.requires _
    c.is_simple-natural.ensures _
    (rest_back c.args.lines.now (12 * c.args.count) _ _ c.store_marks.ensures)
