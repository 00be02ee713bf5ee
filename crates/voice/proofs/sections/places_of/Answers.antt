use mathlib.Core.Path.{ap, ◌∙◌}
use native.Mathlib.Omega.{arith}
use borrow.Author.Tests.{leb-true}
use Prim.Native.Nat.{◌+◌, ◌≤◌}
use lib.ListN.{length}
use Rattle.base.specs.Text.{ascii}
use Rattle.base.proofs.ListLaws.{every-at}
use Rattle.container.specs.Sections.{span_of}
use Rattle.container.proofs.SectionLaws.{section-within}
use Rattle.voice.specs.Header.{good_header}
use Rattle.voice.specs.Voice.{places_of}
use Rattle.voice.proofs.sections.places_of.Goals as goal

pub header_of-requires : goal.header_of-requires
unfolding good_header
header_of-requires c = rw c.header_bytes.ensures (leb-true 40 _ (every-at _ c.requires 0))

pub bytes_at-requires : goal.bytes_at-requires
bytes_at-requires c =
    let e = c.span_of-index.ensures ∙ ap span_of c.find.ensures in
    rw e (section-within c.args.file.now (ascii "dip.index"))

pub after_count-requires : goal.after_count-requires
after_count-requires c =
    let e = c.span_of-index.ensures ∙ ap span_of c.find.ensures in
    let h : c.span_of-index.result.at + c.span_of-index.result.len ≤ length c.args.file.now = rw e (section-within c.args.file.now (ascii "dip.index")) in
    omega (arith, h, c.well_formed.0.1)

pub returns : goal.returns
unfolding places_of
returns c = rw (c.after_count.ensures, c.count_of.ensures, c.bytes_at.ensures, c.span_of-3.ensures, c.find-5.ensures, c.find-4.ensures, c.span_of-2.ensures, c.find-3.ensures, c.span_of.ensures, c.find-2.ensures, c.header_of.ensures, c.header_bytes.ensures, c.span_of-index.ensures, c.find.ensures)
