use Rattle.index.proofs.ShuffleLaws.{shuffled-exchange}
use Rattle.index.proofs.exchange_places.Goals as goal

pub returns : goal.returns
returns c =
    shuffled-exchange _ _ _ _ c.requires.0 _ _ _ _ c.requires.1.0 c.requires.1.1 c.u64_at-a.ensures c.u64_at-b.ensures _ (rw c.put_u64.ensures at c.put_u64-2.ensures)
