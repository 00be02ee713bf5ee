-- The examples, computed.
use mathlib.Core.Path.{refl}
use lib.Ieee.{round}
use Rattle.decimal.specs.Decimal.{begins, digits, after_sign, after_point, whole, part, number, numerator, denominator, negative, text_value}
use Rattle.decimal.specs.Examples.{Examples}

pub computed : Examples
unfolding begins digits after_sign after_point whole part number numerator denominator negative text_value round
computed =
    record {
      fraction = (refl, refl);
      decimal = refl;
      second_point = refl;
      sign_inside = (refl, refl);
      one_side = (refl, refl);
      no_digit = (refl, refl, refl);
      none_in_front = (refl, refl);
      minus_zero = (refl, refl, refl);
      ties = (refl, refl);
      ties_in_parts = (refl, refl);
      above_tie = refl;
      tenth = refl;
      extremes = (refl, refl);
    }
