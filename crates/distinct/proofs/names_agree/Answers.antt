use Rattle.distinct.proofs.NeighbourLaws.{read_fits, names-are}
use Rattle.distinct.proofs.names_agree.Goals as goal

pub name_at-requires : goal.name_at-requires
name_at-requires c =
    read_fits _ _ _ c.requires.0 _ _ c.requires.1.0 c.u64_at-a.ensures

pub name_at-requires-2 : goal.name_at-requires-2
name_at-requires-2 c =
    read_fits _ _ _ c.requires.0 _ _ c.requires.1.1 c.u64_at-b.ensures

pub returns : goal.returns
returns c =
    names-are _ _ _ _ _ _ _ _ _ c.u64_at-a.ensures c.u64_at-b.ensures c.name_at.ensures c.name_at-2.ensures c.same.ensures
