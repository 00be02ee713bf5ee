-- Which of two floats is nearer to a third.
use Rattle.std.specs.Prelude.{Bool, false, Float}
use Rattle.std.specs.Float.{nan, inf, fin, binary32}
use Rattle.std.specs.Float.Ieee.{lt, sub}

-- `x.abs()`: the sign is cleared, also of -0
abbrev pub abs : Float → Float
abs nan = nan
abs (inf s) = inf false
abs (fin s m e) = fin false m e

-- `(p - a).abs() < (p - b).abs()`
abbrev pub nearer : Float → Float → Float → Bool
nearer p a b = lt (abs (sub binary32 p a)) (abs (sub binary32 p b))
