use Rattle.c_pull.proofs.PullLaws.{refused-fits, refused-is}
use Rattle.c_pull.proofs.minus_number.Goals as goal

pub overflow_sub-result : goal.overflow_sub-result
overflow_sub-result c = refused-fits c.args.cause c.from.result c.from.ensures

pub returns : goal.returns
returns c = refused-is c.args.cause c.from.result c.from.ensures
