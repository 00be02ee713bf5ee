use native.Mathlib.Omega.{arith}
use Prim.Native.Nat.{◌≤◌}
use lib.ListN.{length}
use Rattle.base.specs.Text.{ascii}
use Rattle.lines.specs.Lines.{refused}
use Rattle.lines.proofs.PutLaws.{put-more, put_front}
use Rattle.lines.proofs.put_refused.Goals as goal

pub returns-clause-puts : goal.returns-clause-puts
unfolding refused
returns-clause-puts c =
    let d = c.args.out.now in
    let h : 14 ≤ length d = c.requires.1 in
    put-more (put_front (ascii "refused ") d (omega arith) c.copy.ensures) (put-more c.put_number-end.ensures.puts c.put_byte.ensures.puts)
