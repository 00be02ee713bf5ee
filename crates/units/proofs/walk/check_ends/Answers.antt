use native.Mathlib.Omega.{arith}
use Rattle.units.proofs.EndLaws.{ends-past, ends-fit}
use Rattle.units.proofs.walk.check_ends.Goals as goal

pub returns-then-greatest-gt-LIMIT : goal.returns-then-greatest-gt-LIMIT
returns-then-greatest-gt-LIMIT c = (ends-past c.args.sheet.now c.args.rate _ c.greatest_end-greatest.ensures c.if-greatest-gt-LIMIT.true, omega arith)

pub returns : goal.returns
returns c = (ends-fit c.args.sheet.now c.args.rate _ c.greatest_end-greatest.ensures c.if-greatest-gt-LIMIT.false, c.if-greatest-gt-LIMIT.false)
