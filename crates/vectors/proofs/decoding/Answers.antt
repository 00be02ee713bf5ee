-- The sample's word.
use Rattle.std.proofs.Common.{SFits, sym, ap, ◌∙◌, to_z-of_z, w16}
use Rattle.base.specs.Words.{low}
use Rattle.base.proofs.WordLaws.{low_bits}
use Rattle.vectors.proofs.VectorLaws.{one_same}
use Rattle.vectors.proofs.decoding.Goals as goal

pub returns : goal.returns
returns c =
    let u = c.ulaw_to_i16 in
    let fits : SFits w16 u.result = record { sfits = u.type_inv } in
    let word = c.cast_unsigned-word.ensures ∙ rw (to_z-of_z fits) (sym (low_bits w16 u.result fits)) ∙ ap (low 16) u.ensures in
    (one_same c.one.ensures.0 word c.u16_at.ensures, c.one.ensures.1)
