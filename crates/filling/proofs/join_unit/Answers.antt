use mathlib.Core.Path.{◌∙◌}
use Rattle.voice.specs.Voice.{voice_of}
use Rattle.filling.proofs.TakeLaws.{join-natural, join_kept}
use Rattle.filling.proofs.join_unit.Goals as goal

pub returns-then-natural : goal.returns-then-natural
returns-then-natural c =
    let a = c.args in
    c.ending_at.ensures ∙ join-natural a.natural (voice_of a.file.now) a.end_before a.unit _ c.if-natural.true c.samples_from-samples.ensures.0

pub returns : goal.returns
returns c = let a = c.args in join_kept a.natural (voice_of a.file.now) a.end_before a.unit c.if-natural.false
