use borrow.Author.Tests.{lt-ltb, le-ltb}
use Rattle.lines.specs.Lines.{digit}
use Rattle.lines.proofs.PutLaws.{put-none}
use Rattle.lines.proofs.put_digit.Goals as goal

pub returns-then-n-unit-clause-puts : goal.returns-then-n-unit-clause-puts
unfolding digit
returns-then-n-unit-clause-puts c = rw (lt-ltb _ _ c.if-n-unit.true) (put-none _ _)

pub returns-else-n-unit-clause-puts : goal.returns-else-n-unit-clause-puts
unfolding digit
returns-else-n-unit-clause-puts c = rw (le-ltb _ _ c.if-n-unit.false) c.put_byte.ensures.puts
