use Rattle.opening.proofs.IndexLaws.{open-within}
use Rattle.units.proofs.SelectLaws.{whole-at, distinct-at, found_at, filled_at, sparse-at}
use Rattle.units.proofs.select.find_name.Goals as goal

pub bytes_at-entries-requires : goal.bytes_at-entries-requires
bytes_at-entries-requires c = open-within c.args.file.now c.args.by.voice c.requires.opened

pub lookup-requires : goal.lookup-requires
lookup-requires c = whole-at c.args.file.now c.args.by.voice c.requires.opened _ c.bytes_at-entries.ensures

pub find-requires : goal.find-requires
find-requires c =
    let b = c.bytes_at-entries.ensures in
    (filled_at c.args.file.now c.args.by.voice c.requires.opened _ b (c.requires.holds.sorted c.in-Sorted.is), distinct-at c.args.file.now c.args.by.voice c.requires.opened _ b)

pub find-requires-in-Sparse : goal.find-requires-in-Sparse
find-requires-in-Sparse c =
    sparse-at c.args.file.now c.args.by.voice c.requires.opened _ c.bytes_at-entries.ensures (c.requires.holds.sparse _ c.in-Sparse.is)

pub returns-in-Nothing : goal.returns-in-Nothing
returns-in-Nothing c = found_at c.args.file.now c.args.by.voice c.requires.opened _ c.bytes_at-entries.ensures _ c.lookup.ensures

pub returns-in-Sorted : goal.returns-in-Sorted
returns-in-Sorted c = found_at c.args.file.now c.args.by.voice c.requires.opened _ c.bytes_at-entries.ensures _ c.find.ensures

pub returns-in-Sparse : goal.returns-in-Sparse
returns-in-Sparse c = found_at c.args.file.now c.args.by.voice c.requires.opened _ c.bytes_at-entries.ensures _ c.find-in-Sparse.ensures
