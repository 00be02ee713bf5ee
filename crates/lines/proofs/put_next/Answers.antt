use Rattle.lines.specs.Lines.{next}
use Rattle.lines.proofs.PutLaws.{put-more}
use Rattle.lines.proofs.put_next.Goals as goal

pub returns-clause-puts : goal.returns-clause-puts
unfolding next
returns-clause-puts c =
    put-more c.put_byte-next.ensures.puts c.put_sample.ensures.puts
