use Rattle.lines.specs.Lines.{summary}
use Rattle.lines.proofs.PutLaws.{put-more}
use Rattle.lines.proofs.put_summary.Goals as goal

pub returns-clause-puts : goal.returns-clause-puts
unfolding summary
returns-clause-puts c =
    put-more c.put_number-a.ensures.puts (put-more c.put_field-b.ensures.puts (put-more c.put_field-c.ensures.puts c.put_byte.ensures.puts))
