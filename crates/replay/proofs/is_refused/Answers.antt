-- The line that was put is the refusal.
use Rattle.replay.proofs.StoredLaws.{put_same}
use Rattle.replay.proofs.is_refused.Goals as goal

pub returns : goal.returns
returns c =
    let p = c.put_refused-n.ensures in
    put_same p.puts p.upper_bound _ c.same.ensures
