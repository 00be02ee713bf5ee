-- The examples, computed.
use mathlib.Core.Path.{refl}
use Rattle.base.specs.Buffers.{upto}
use Rattle.adpcm_float.specs.Powers.{not_above, powers_not_above}
use Rattle.adpcm_float.specs.Examples.{Examples}

pub computed : Examples
unfolding upto not_above powers_not_above
computed =
    record {
      none = (refl, refl, refl);
      first = (refl, refl, refl, refl);
      highest = (refl, refl);
      beyond = (refl, refl);
    }
