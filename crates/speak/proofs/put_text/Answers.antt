-- The text of a call, or of the refusal of a file that is too long.
use Rattle.std.proofs.Common.{sym, ◌∙◌}
use Rattle.speak.specs.Speaking.{text_of}
use Rattle.transcript.specs.Program.{within_limits}
use Rattle.speak.proofs.put_text.Goals as goal

pub returns-then-is_too_long-clause-puts : goal.returns-then-is_too_long-clause-puts
unfolding text_of within_limits
returns-then-is_too_long-clause-puts c =
    let e = sym c.is_too_long.ensures ∙ c.if-is_too_long.true in
    rw e (rw c.from.ensures at c.put_refused.ensures.puts)

pub returns-clause-puts : goal.returns-clause-puts
unfolding text_of within_limits
returns-clause-puts c =
    let e = sym c.is_too_long.ensures ∙ c.if-is_too_long.false in
    rw e (rw c.program_settings.ensures at c.put_call.ensures.puts)
