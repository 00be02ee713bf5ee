use Rattle.index.proofs.InsertLaws.{filled-asks, filled}
use Rattle.std.proofs.Common.{rules}
use Rattle.index.proofs.insert_places.Goals as goal

pub sort_places-requires : goal.sort_places-requires
sort_places-requires c =
    filled-asks _ _ _ _ c.requires _ c.store_places.ensures (search rules)

pub returns : goal.returns
returns c =
    filled _ _ _ _ c.requires _ c.store_places.ensures _ c.sort_places.ensures
