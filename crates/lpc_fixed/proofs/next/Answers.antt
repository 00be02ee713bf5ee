use Rattle.std.proofs.Common.{◌≡◌, pos, ◌*ℤ◌, ap, ◌∙◌, w16, w32}
use Rattle.base.specs.Words.{low}
use Rattle.ulaw.specs.Ulaw.{sample_of}
use Rattle.lpc.specs.Fixed.{divided}
use Rattle.lpc_fixed.proofs.ValueLaws.{cast_is, started}
use Rattle.lpc_fixed.proofs.next.Goals as goal

pub returns : goal.returns
unfolding divided
returns c =
    let u = c.ulaw_to_i16 in
    let sample : c.i32_to_word-sample.result ≡ low 32 (sample_of c.args.byte) =
    c.i32_to_word-sample.ensures ∙ ap (low 32) (cast_is w16 w32 tt u.result (record { sfits = u.type_inv }) ∙ u.ensures) in
    let start : c.wrapping_mul-start.result ≡ low 32 (sample_of c.args.byte *ℤ pos 16384) = c.wrapping_mul-start.ensures ∙ rw sample (started _) in
    c.divide_by_16384.ensures ∙ rw (c.sum.ensures, start)
