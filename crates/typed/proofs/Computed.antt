-- The examples, computed.
use mathlib.Core.Path.{refl}
use lib.Ieee.{to_bits}
use Rattle.worked.specs.Tried.{tried}
use Rattle.worked.specs.Files.{voice_file}
use Rattle.typed.specs.Floats.{in_float, copied, valued, segment_written, target_written, in_row, in_floats}
use Rattle.typed.specs.Examples.{office, in_bits, no_pitch, Examples}

pub computed : Examples
unfolding tried voice_file to_bits in_float copied valued segment_written target_written in_row in_floats office in_bits no_pitch
computed =
    record {
      all_texts = refl;
      some_texts = refl;
      no_texts = refl;
      marks = (refl, refl);
      float_marks = (refl, refl);
      no_digit = (refl, refl);
      twelve = refl;
      thirteen = refl;
      short = refl;
      kind4 = refl;
      long_first = refl;
      infinite_first = refl;
      name_first = refl;
    }
