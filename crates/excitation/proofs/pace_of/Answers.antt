use mathlib.Core.Path.{ap, ◌∙◌}
use Rattle.voice.specs.Voice.{voice_of}
use Rattle.excitation.specs.Nearest.{f32_of, pace_of}
use Rattle.excitation.proofs.pace_of.Goals as goal

pub returns : goal.returns
unfolding pace_of
returns c =
    let v = voice_of c.args.file.now in
    let n = c.u32_to_f32.ensures ∙ ap f32_of c.samples_from-samples.ensures.0 in
    let s = c.u32_to_f32-2.ensures ∙ ap f32_of c.span.ensures.0 in
    rw (n, s)
