use mathlib.Core.Path.{sym, ap, subst, ◌∙◌}
use mathlib.Core.List.{List}
use Prim.Native.Nat.{ℕ}
use lib.Seq.{sets}
use Rattle.voice.specs.declared.Codec.{Codec}
use Rattle.voice.specs.Voice.{voice_of}
use Rattle.voice.specs.Periods.{residual_of}
use Rattle.excitation.specs.Source.{Holds, centred}
use Rattle.taking.proofs.PeriodLaws.{codec-is, source_is}
use Rattle.taking.proofs.write_period.Goals as goal

pub source-source-requires : goal.source-source-requires
source-source-requires c =
    let a = c.args in
    let k = codec-is a.file.now a.d c.requires.0 ∙ sym c.codec_of-codec.ensures in
    let by-codec = subst (λ (k : Codec). Holds k a.decoded.now (residual_of (voice_of a.file.now) a.p)) k c.requires.1.1.0 in
    subst (λ (s : List ℕ). Holds c.codec_of-codec.result a.decoded.now s) (sym c.residual.ensures) by-codec

pub returns : goal.returns
returns c =
    let a = c.args in
    let s = source_is a.file.now a.d c.requires.0 a.p c.codec_of-codec.result c.period_samples-samples.result _ _ c.codec_of-codec.ensures c.period_samples-samples.ensures.0 c.residual.ensures c.source-source.ensures in
    c.write_window.ensures ∙ ap (λ (s : List ℕ). sets a.excitation.now a.at (centred a.size s)) (c.front_of.ensures ∙ s)
