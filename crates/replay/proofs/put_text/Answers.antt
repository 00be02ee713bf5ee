-- The call is made with the settings and the buffers of the head.
use Rattle.replay.proofs.StoredLaws.{text-by}
use Rattle.replay.proofs.put_text.Goals as goal

pub returns-clause-puts : goal.returns-clause-puts
returns-clause-puts c =
    let x = c.args in
    let t =
    text-by x.head.now x.voice.now x.sheet.now c.settings_in.ensures
    c.length_at-a.ensures.0 c.length_at-b.ensures.0 c.length_at-c.ensures.0 c.length_at-d.ensures.0 c.length_at-e.ensures.0 c.length_at-f.ensures.0
    in
    rw t at c.put_call.ensures.puts
