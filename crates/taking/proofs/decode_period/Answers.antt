use mathlib.Core.Path.{sym, ap, subst, ◌∙◌}
use mathlib.Core.List.{List}
use Prim.Native.Nat.{ℕ, ◌*◌, ◌≤◌}
use lib.ListN.{length}
use Rattle.base.specs.Buffers.{over}
use Rattle.adpcm.specs.Decoder.{decoded}
use Rattle.voice.specs.Voice.{voice_of}
use Rattle.taking.specs.Taking.{decoded_of, Held}
use Rattle.taking.proofs.PeriodLaws.{over-same, held-front, decoded-ulaw, decoded-g721, decode-room}
use Rattle.taking.proofs.decode_period.Goals as goal

pub returns-then-front-p : goal.returns-then-front-p
returns-then-front-p c =
    let a = c.args in
    let e = c.if-front-p.true in
    let held = subst (λ (n : ℕ). Held (voice_of a.file.now) a.decoded.now n) e c.requires.1.1.1 in
    over-same (decoded_of (voice_of a.file.now) a.p) a.decoded.now (held-front a.file.now a.d c.requires.0 a.decoded.now a.p c.requires.1.0 held)

pub returns-in-Ulaw : goal.returns-in-Ulaw
returns-in-Ulaw c =
    let a = c.args in
    decoded-ulaw a.file.now a.d c.requires.0 a.p a.decoded.now (sym c.codec_of.ensures ∙ c.in-Ulaw.is)

pub decode_adpcm-requires : goal.decode_adpcm-requires
decode_adpcm-requires c =
    let a = c.args in
    subst (λ (s : List ℕ). 2 * length s ≤ length a.decoded.now) (sym c.residual.ensures)
    (decode-room a.file.now a.d c.requires.0 a.p (length a.decoded.now) c.requires.1.0 (sym c.codec_of.ensures ∙ c.in-G721.is) c.requires.1.1.0)

pub returns-in-G721 : goal.returns-in-G721
returns-in-G721 c =
    let a = c.args in
    let g = sym c.codec_of.ensures ∙ c.in-G721.is in
    c.decode_adpcm.ensures
    ∙ ap (λ (s : List ℕ). over s a.decoded.now) (ap decoded c.residual.ensures ∙ sym (decoded-g721 a.file.now a.d c.requires.0 a.p g))
