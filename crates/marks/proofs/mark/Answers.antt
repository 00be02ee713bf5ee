use Rattle.std.proofs.Common.{le-ltb, lt-ltb, le-leb}
use borrow.Author.Tests.{lt-leb}
use Rattle.marks.specs.Walking.{marked}
use Rattle.marks.proofs.mark.Goals as goal

pub returns-then-m-le-LIMIT : goal.returns-then-m-le-LIMIT
unfolding marked
returns-then-m-le-LIMIT c = rw (c.later.ensures, ← c.next_time-time.ensures, ← c.mark_at-m.ensures, lt-ltb _ _ c.if-w-gt0.true, le-leb _ _ c.if-m-le-LIMIT.true)

pub returns-then-w-gt0 : goal.returns-then-w-gt0
unfolding marked
returns-then-w-gt0 c = rw (← c.next_time-time.ensures, ← c.mark_at-m.ensures, lt-ltb _ _ c.if-w-gt0.true, lt-leb _ _ c.if-m-le-LIMIT.false)

pub returns : goal.returns
unfolding marked
returns c = simp (le-ltb _ _ c.if-w-gt0.false)
