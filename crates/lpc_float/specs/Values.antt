-- Inner: The zero that stands after a row's values.
use Rattle.std.specs.Float.{fin}
use Rattle.std.specs.Prelude.{false, pos, Float}

abbrev pub zero32 : Float
zero32 = fin false 0 (pos 0)
