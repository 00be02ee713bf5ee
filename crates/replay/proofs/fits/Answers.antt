-- One more length is not above its limit, or one is.
use Rattle.std.proofs.Common.{arith, ◌∙◌}
use Rattle.replay.proofs.StoredLaws.{fitting-none, fitting-more, fitting-not}
use Rattle.replay.proofs.fits.Goals as goal

pub loop-i-init : goal.loop-i-init
loop-i-init c = (omega arith, fitting-none _)

pub returns-then-i-from : goal.returns-then-i-from
returns-then-i-from c = fitting-not _ 9 c.loop-i.i (omega arith) (rw (c.from.ensures ∙ c.u16_at.ensures) at c.if-i-from.true)

pub loop-i-preserved : goal.loop-i-preserved
loop-i-preserved c = (omega arith, fitting-more _ c.loop-i.i c.loop-i.invariant.1 (rw (c.from.ensures ∙ c.u16_at.ensures) at c.if-i-from.false))
