use Rattle.index.proofs.ShuffleLaws.{shuffled-read, names-told}
use Rattle.index.proofs.places_ascend.Goals as goal

pub overflow_sub-a : goal.overflow_sub-a
overflow_sub-a c =
    (shuffled-read _ _ _ _ _ c.requires.0 _ _ c.requires.1.0 c.u64_at.ensures).low

pub overflow_sub-b : goal.overflow_sub-b
overflow_sub-b c =
    (shuffled-read _ _ _ _ _ c.requires.0 _ _ c.requires.1.1 c.u64_at-2.ensures).low

pub stands_before-requires : goal.stands_before-requires
stands_before-requires c =
    ((shuffled-read _ _ _ _ _ c.requires.0 _ _ c.requires.1.0 c.u64_at.ensures).fits, (shuffled-read _ _ _ _ _ c.requires.0 _ _ c.requires.1.1 c.u64_at-2.ensures).fits)

pub returns : goal.returns
returns c = names-told _ _ _ _ _ _ _ _ c.u64_at.ensures c.u64_at-2.ensures c.stands_before.ensures
