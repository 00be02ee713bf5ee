-- The text that was put is the call's.
use Rattle.std.proofs.Common.{ℕ, arith}
use Rattle.std.proofs.lemmas.List.{length-replicate}
use Rattle.replay.proofs.StoredLaws.{put_same}
use Rattle.replay.proofs.agrees.Goals as goal

pub returns : goal.returns
returns c =
    let p = c.put_text-n.ensures in
    put_same p.puts (omega (arith, p.upper_bound, length-replicate {A = ℕ} 65536 0)) _ c.same.ensures
