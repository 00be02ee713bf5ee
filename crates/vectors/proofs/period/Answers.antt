-- The period whose samples and bytes were compared.
use Rattle.vectors.proofs.TallyLaws.{joined-within}
use Rattle.vectors.proofs.VectorLaws.{period-of}
use Rattle.vectors.proofs.period.Goals as goal

pub returns : goal.returns
returns c =
    let a = c.args in
    let s = c.samples-t.ensures in
    let b = c.bytes.ensures in (
      period-of a.packed.now a.words.now a.want.now _ _ s.0 c.decode_adpcm.ensures b.0 c.joined.ensures,
      rw c.joined.ensures (joined-within _ _ 131072 131072 s.1 b.1),
    )
