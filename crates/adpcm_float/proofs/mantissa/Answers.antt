use Rattle.adpcm_float.proofs.FloatLaws.{mantissa-lt, mantissa-or}
use Rattle.adpcm_float.proofs.mantissa.Goals as goal

pub returns : goal.returns
returns c =
    let mag = c.args.mag in
    let e = mantissa-or mag c.requires in
    let l = mantissa-lt mag c.requires in
    rw c.exponent.ensures.0 (e, rw e l)
