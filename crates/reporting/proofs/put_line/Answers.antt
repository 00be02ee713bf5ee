use Rattle.reporting.proofs.LineLaws.{line-put}
use Rattle.reporting.proofs.put_line.Goals as goal

pub returns : goal.returns
returns c =
    line-put _ _ _ _ _ _ _ _ _ _ c.put_u32.ensures c.put_u32-2.ensures c.put_u32-3.ensures c.put_u32-4.ensures
