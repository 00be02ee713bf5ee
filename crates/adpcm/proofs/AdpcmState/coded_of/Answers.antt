use mathlib.Core.Path.{◌∙◌, ap}
use Rattle.ulaw.specs.Ulaw.{ulaw_of}
use Rattle.adpcm.specs.Decoder.{next_of, sample_in}
use Rattle.adpcm.proofs.AdpcmState.coded_of.Goals as goal

pub returns : goal.returns
returns c =
    let a = c.args in
    let e = c.signals_of-g.ensures.0 in
    record {
      byte = c.byte_of-byte.ensures ∙ ap (λ g. ulaw_of (sample_in g)) e;
      state = c.next_of-state.ensures.0 ∙ ap (next_of a.self a.code) e;
      words = c.next_of-state.ensures.1;
    }
