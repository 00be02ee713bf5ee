-- The examples, computed.
use mathlib.Core.Path.{refl}
use Rattle.worked.specs.Tried.{tried}
use Rattle.worked.specs.Files.{voice_file, sheet_file}
use Rattle.strict.specs.Examples.{missing, missing_late, missing_cut, alone, Examples}

pub computed : Examples
unfolding tried voice_file sheet_file missing missing_late missing_cut alone
computed =
    record {
      example = (refl, (refl, refl));
      join_none = (refl, refl);
      join_simple = (refl, refl);
      join_modified = (refl, refl);
      after_sheet = refl;
      before_ends = (refl, refl);
      before_buffers = (refl, refl);
      one = refl;
    }
