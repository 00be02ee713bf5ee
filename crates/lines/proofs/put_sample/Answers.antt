use Rattle.std.proofs.Common.{to_z-of_z, ◌∙◌, w16}
use borrow.Author.Tests.{lt-ltb, le-ltb}
use Rattle.lines.specs.Lines.{sample}
use Rattle.lines.proofs.PutLaws.{put-more, word_high, word_low}
use Rattle.lines.proofs.put_sample.Goals as goal

pub returns-then-sample-lt0-clause-puts : goal.returns-then-sample-lt0-clause-puts
unfolding sample
returns-then-sample-lt0-clause-puts c =
    let s = c.cast_signed-sample in
    let high = word_high c.args.word s.result c.ranges.word.fits (to_z-of_z {w = w16} (record { sfits = s.type_inv }) ∙ s.ensures) c.if-sample-lt0.true in
    rw (le-ltb _ _ high.0, ← high.1, ← c.unsigned_abs.ensures.value, ← c.from.ensures) (put-more c.put_byte-next.ensures.puts c.put_number.ensures.puts)

pub returns-else-sample-lt0-clause-puts : goal.returns-else-sample-lt0-clause-puts
unfolding sample
returns-else-sample-lt0-clause-puts c =
    let s = c.cast_signed-sample in
    let low = word_low c.args.word s.result c.ranges.word.fits (to_z-of_z {w = w16} (record { sfits = s.type_inv }) ∙ s.ensures) c.if-sample-lt0.false in
    rw (lt-ltb _ _ low, ← c.from-else-sample-lt0.ensures) c.put_number-else-sample-lt0.ensures.puts
