use Rattle.lines.proofs.PutLaws.{put-more}
use Rattle.lines.proofs.put_field.Goals as goal

pub returns-clause-puts : goal.returns-clause-puts
returns-clause-puts c =
    put-more c.put_byte-next.ensures.puts c.put_number.ensures.puts
