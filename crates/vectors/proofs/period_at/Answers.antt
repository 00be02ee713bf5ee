-- The period whose record was read, where it lies within the codes and where it does not.
use Rattle.std.proofs.Common.{arith}
use Rattle.vectors.proofs.TallyLaws.{wider}
use Rattle.vectors.proofs.VectorLaws.{period-within, period-outside}
use Rattle.vectors.proofs.period_at.Goals as goal

pub returns-then-to-codes : goal.returns-then-to-codes
returns-then-to-codes c =
    let a = c.args in
    (period-within a.periods.now a.codes.now a.words.now a.want.now a.i c.u16_at-from.ensures c.u16_at.ensures c.if-to-codes.true c.period.ensures.0, c.period.ensures.1)

pub returns-else-to-codes : goal.returns-else-to-codes
returns-else-to-codes c =
    let a = c.args in (
      period-outside a.periods.now a.codes.now a.words.now a.want.now a.i c.u16_at-from.ensures c.u16_at.ensures c.if-to-codes.false c.one.ensures.0,
      wider 1 262144 (omega arith) c.one.ensures.1,
    )
