use mathlib.Core.Path.{◌∙◌}
use Rattle.base.proofs.ResultLaws.{failed}
use Rattle.checking.proofs.CheckLaws.{pair-refused, join-few, join-refused, join-passed}
use Rattle.checking.proofs.check_held.Goals as goal

pub returns-then-not-check_pairs : goal.returns-then-not-check_pairs
returns-then-not-check_pairs c =
    pair-refused c.args.file.now c.args.index.now c.args.sheet.now c.args.by c.args.settings c.requires c.check_pairs.result c.check_pairs.ensures c.if-not-check_pairs.true

pub need_of-requires : goal.need_of-requires
need_of-requires c = (
  c.requires.searchable.opened,
  join-few c.args.file.now c.args.index.now c.args.sheet.now c.args.by c.args.settings c.requires c.check_pairs.result c.check_pairs.ensures
      c.if-not-check_pairs.false c.check_plan.result c.check_plan.ensures _ c.in_ok-counts.was,
)

pub returns-in_err-counts : goal.returns-in_err-counts
returns-in_err-counts c =
    failed _ c.from_residual.ensures
    ∙ join-refused c.args.file.now c.args.index.now c.args.sheet.now c.args.by c.args.settings c.requires c.check_pairs.result c.check_pairs.ensures
    c.if-not-check_pairs.false c.check_plan.result c.check_plan.ensures _ c.in_err-counts.was

pub returns : goal.returns
returns c =
    join-passed c.args.file.now c.args.index.now c.args.sheet.now c.args.by c.args.settings c.requires c.check_pairs.result c.check_pairs.ensures
    c.if-not-check_pairs.false c.check_plan.result c.check_plan.ensures _ c.in_ok-counts.was _ c.need_of.ensures
