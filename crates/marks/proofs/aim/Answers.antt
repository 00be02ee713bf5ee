use Rattle.std.proofs.Common.{sym, ◌∙◌}
use lib.Ieee.{of_bits}
use Rattle.marks.specs.Walking.{aimed}
use Rattle.marks.proofs.FiniteLaws.{same-finite}
use Rattle.marks.proofs.aim.Goals as goal

pub returns-then-is_finite : goal.returns-then-is_finite
unfolding aimed
returns-then-is_finite c = rw (← c.slope_to-slope.ensures, sym c.is_ahead.ensures ∙ c.if-is_ahead.true, same-finite _ ∙ sym c.is_finite.ensures.value ∙ c.if-is_finite.true, c.moved.ensures)

pub returns-then-is_ahead : goal.returns-then-is_ahead
unfolding aimed
returns-then-is_ahead c = rw (← c.slope_to-slope.ensures, sym c.is_ahead.ensures ∙ c.if-is_ahead.true, same-finite _ ∙ sym c.is_finite.ensures.value ∙ c.if-is_finite.false)

pub returns : goal.returns
unfolding aimed of_bits
returns c = rw (sym c.is_ahead.ensures ∙ c.if-is_ahead.false, c.moved-2.ensures)
