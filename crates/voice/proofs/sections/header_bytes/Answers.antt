use mathlib.Core.Path.{ap, ◌∙◌}
use Rattle.base.specs.Text.{ascii}
use Rattle.container.specs.Sections.{span_of, bytes_at}
use Rattle.container.proofs.SectionLaws.{section-within}
use Rattle.voice.proofs.sections.header_bytes.Goals as goal

pub bytes_at-requires : goal.bytes_at-requires
bytes_at-requires c =
    let e = c.span_of.ensures ∙ ap span_of c.find.ensures in
    rw e (section-within c.args.file.now (ascii "sts.header"))

pub returns : goal.returns
returns c = c.bytes_at.ensures ∙ ap (bytes_at c.args.file.now) (c.span_of.ensures ∙ ap span_of c.find.ensures)
