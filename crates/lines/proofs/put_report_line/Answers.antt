use Rattle.lines.specs.Lines.{report_line}
use Rattle.lines.proofs.PutLaws.{put-more}
use Rattle.lines.proofs.put_report_line.Goals as goal

pub returns-clause-puts : goal.returns-clause-puts
unfolding report_line
returns-clause-puts c =
    let half = put-more c.put_field-c.ensures.puts (put-more c.put_field-d.ensures.puts (put-more c.put_field-e.ensures.puts c.put_byte.ensures.puts)) in
    put-more c.put_number-a.ensures.puts (put-more c.put_field-b.ensures.puts half)
