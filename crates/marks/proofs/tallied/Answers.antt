use Rattle.std.proofs.Common.{sym, ap, ◌∙◌}
use Rattle.marks.specs.Checking.{tallied}
use Rattle.marks.proofs.tallied.Goals as goal

pub returns-then-takes : goal.returns-then-takes
returns-then-takes c =
    ap (tallied c.args.t c.args.m) (sym c.if-takes.true ∙ c.takes.ensures)

pub returns : goal.returns
returns c =
    ap (tallied c.args.t c.args.m) (sym c.if-takes.false ∙ c.takes.ensures)
