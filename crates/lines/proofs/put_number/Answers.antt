use Rattle.lines.specs.Lines.{decimal}
use Rattle.lines.proofs.PutLaws.{put-more}
use Rattle.lines.proofs.put_number.Goals as goal

pub returns-clause-puts : goal.returns-clause-puts
unfolding decimal
returns-clause-puts c =
    put-more c.put_digit-a.ensures.puts (put-more c.put_digit-b.ensures.puts (put-more c.put_digit-c.ensures.puts (put-more c.put_digit-d.ensures.puts c.put_byte.ensures.puts)))
