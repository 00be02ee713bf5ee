-- Inner: How long the speed control's words are, by the Recommendation's list of signals.
use Rattle.std.specs.Prelude.{◌<◌}
use Rattle.adpcm_scale.specs.declared.Speed.{Speed}

pub record SpeedWords (v : Speed) : Type 0 where
  pub dms : v.dms < 4096
  pub dml : v.dml < 16384
  pub ap : v.ap < 1024
