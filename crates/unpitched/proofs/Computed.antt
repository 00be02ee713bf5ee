-- The examples, computed.
use mathlib.Core.Path.{refl}
use Rattle.worked.specs.Tried.{tried}
use Rattle.worked.specs.Files.{voice_file}
use Rattle.unpitched.specs.Boxes.{box, filled_from, filled_in}
use Rattle.unpitched.specs.Examples.{shorter, longer, shorter_filled, Examples}

pub computed : Examples
unfolding tried voice_file box filled_from filled_in shorter longer shorter_filled
computed =
    record {
      first = refl;
      once = refl;
      twice = refl;
      zero = refl;
      minus_zero = refl;
      counted = refl;
      boxes = record { reads = refl; filled_reads = refl; is = refl };
      spoken = (refl, refl);
      begun = (refl, refl);
    }
