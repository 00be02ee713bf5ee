use mathlib.Core.Path.{refl, sym, ◌∙◌}
use Prim.Native.Nat.{◌/◌}
use native.Mathlib.Omega.{arith}
use lib.ListN.{length}
use Rattle.opening.proofs.IndexLaws.{fits_by, open-within}
use Rattle.units.proofs.AskedLaws.{holds-nothing, holds-sparse, holds-sorted, stride-reaches, stride-small}
use Rattle.units.proofs.SelectLaws.{whole-at, some_at}
use Rattle.units.proofs.holding.hold.Goals as goal

pub fill_index-requires : goal.fill_index-requires
fill_index-requires c =
    (c.requires.0, fits_by c.args.file.now c.args.d c.requires.0 (length c.args.index.now) (omega (arith, c.requires.1)))

pub returns-then-d-room : goal.returns-then-d-room
returns-then-d-room c =
    let o = c.requires.0 in
    let f = fits_by c.args.file.now c.args.d o (length c.args.index.now) (omega (arith, c.requires.1)) in
    holds-sorted c.args.file.now c.args.d o c.args.index.now _ f c.fill_index.ensures (omega (arith, c.well_formed.0.1))

pub bytes_at-entries-requires : goal.bytes_at-entries-requires
bytes_at-entries-requires c = open-within c.args.file.now c.args.d c.requires.0

pub is_ascending-requires : goal.is_ascending-requires
is_ascending-requires c = whole-at c.args.file.now c.args.d c.requires.0 _ c.bytes_at-entries.ensures

pub overflow_add-d : goal.overflow_add-d
overflow_add-d c =
    omega (arith, stride-small c.args.d.count (length c.args.index.now / 8) (omega (arith, c.requires.1)))

pub fill-requires : goal.fill-requires
fill-requires c =
    let b = c.bytes_at-entries.ensures in
    let w = whole-at c.args.file.now c.args.d c.requires.0 _ b in
    let u = sym c.is_ascending.ensures ∙ c.if-is_ascending.true in
    ((w, u), (some_at c.args.file.now c.args.d c.requires.0 _ b, (c.requires.1, stride-reaches c.args.d.count (length c.args.index.now / 8) (omega (arith, c.requires.1)))))

pub returns-then-is_ascending : goal.returns-then-is_ascending
returns-then-is_ascending c =
    holds-sparse c.args.file.now _ c.args.d _ c.bytes_at-entries.ensures _ c.fill.ensures

pub returns : goal.returns
returns c = holds-nothing c.args.file.now _ c.args.d _ refl
