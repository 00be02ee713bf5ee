use Rattle.search.proofs.SearchLaws.{filled-read}
use native.Mathlib.Omega.{arith}
use Rattle.search.proofs.sorted_place.Goals as goal

pub u64_at-requires : goal.u64_at-requires
u64_at-requires c = omega (arith, c.requires.0.able.room)

pub overflow_sub-result : goal.overflow_sub-result
overflow_sub-result c = (filled-read _ _ _ _ c.requires.0 _ c.requires.1 _ c.u64_at.ensures).low

pub returns : goal.returns
returns c =
    let r = filled-read _ _ _ _ c.requires.0 _ c.requires.1 _ c.u64_at.ensures in
    (r.entry, r.fits)
