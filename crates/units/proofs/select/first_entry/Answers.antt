use Rattle.opening.proofs.IndexLaws.{open-within}
use Rattle.units.proofs.SelectLaws.{whole-at, some_at, first-at, filled_at, sparse-at}
use Rattle.units.proofs.select.first_entry.Goals as goal

pub bytes_at-entries-requires : goal.bytes_at-entries-requires
bytes_at-entries-requires c = open-within c.args.file.now c.args.by.voice c.requires.opened

pub smallest-requires : goal.smallest-requires
smallest-requires c =
    let b = c.bytes_at-entries.ensures in
    (whole-at c.args.file.now c.args.by.voice c.requires.opened _ b, some_at c.args.file.now c.args.by.voice c.requires.opened _ b)

pub first_sorted-requires : goal.first_sorted-requires
first_sorted-requires c =
    let b = c.bytes_at-entries.ensures in
    (filled_at c.args.file.now c.args.by.voice c.requires.opened _ b (c.requires.holds.sorted c.in-Sorted.is), some_at c.args.file.now c.args.by.voice c.requires.opened _ b)

pub first-requires : goal.first-requires
first-requires c =
    sparse-at c.args.file.now c.args.by.voice c.requires.opened _ c.bytes_at-entries.ensures (c.requires.holds.sparse _ c.in-Sparse.is)

pub returns-in-Nothing : goal.returns-in-Nothing
returns-in-Nothing c = first-at c.args.file.now c.args.by.voice c.requires.opened _ c.bytes_at-entries.ensures c.smallest.ensures.0

pub returns-in-Sorted : goal.returns-in-Sorted
returns-in-Sorted c = first-at c.args.file.now c.args.by.voice c.requires.opened _ c.bytes_at-entries.ensures c.first_sorted.ensures.0

pub returns-in-Sparse : goal.returns-in-Sparse
returns-in-Sparse c = first-at c.args.file.now c.args.by.voice c.requires.opened _ c.bytes_at-entries.ensures c.first.ensures.0
