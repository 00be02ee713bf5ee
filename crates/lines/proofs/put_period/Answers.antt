use Rattle.base.proofs.ByteLaws.{length-elements}
use Rattle.lines.specs.Lines.{period}
use Rattle.lines.proofs.PutLaws.{put-more}
use Rattle.lines.proofs.put_period.Goals as goal

pub returns-clause-puts : goal.returns-clause-puts
unfolding period
returns-clause-puts c =
    let s = c.args.samples.now in
    rw (length-elements 2 s) (put-more c.put_number-a.ensures.puts (put-more c.put_field-b.ensures.puts (put-more c.put_samples-c.ensures.puts c.put_byte.ensures.puts)))
