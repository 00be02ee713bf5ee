use mathlib.Core.Path.{sym, ◌∙◌}
use native.Mathlib.Omega.{arith}
use borrow.Author.Tests.{lt-leb}
use lib.ListN.{take, length-take}
use Rattle.text.proofs.NameLaws.{same-short}
use Rattle.container.specs.Sections.{magic, has_magic}
use Rattle.container.proofs.has_magic.Goals as goal

pub returns-then-file-ge8 : goal.returns-then-file-ge8
unfolding has_magic magic
returns-then-file-ge8 c = c.same.ensures

pub returns-else-file-ge8 : goal.returns-else-file-ge8
unfolding has_magic magic
returns-else-file-ge8 c =
    lt-leb _ _ c.if-file-ge8.false ∙ sym (same-short (take 8 c.args.file.now) magic (rw length-take (omega arith)))
