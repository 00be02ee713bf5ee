-- A finite float, as std has it and as the definition has it.
use Rattle.std.specs.Float.{float_is_finite}
use Rattle.std.proofs.Common.{◌≡◌, refl}
use lib.Ieee.{Float, nan, inf, fin}
use Rattle.sheet.specs.Sheet.{is_finite}

pub same-finite : (x : Float) → is_finite x ≡ float_is_finite x
unfolding is_finite float_is_finite
same-finite nan = refl
same-finite (inf s) = refl
same-finite (fin s m e) = refl
