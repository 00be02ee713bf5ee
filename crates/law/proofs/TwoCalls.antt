-- Two calls are spoken, and the second is longer: computed.
use mathlib.Core.Path.{◌≡◌, refl, sym, ◌∙◌}
use mathlib.Core.Bool.{Bool, true}
use mathlib.Core.List.{List, [], ◌∷◌, map}
use Prim.Native.Nat.{ℕ, zero, suc}
use native.Mathlib.Omega.{arith}
use borrow.Author.Tests.{ltb-true}
use lib.Dec.{ltb}
use lib.ListN.{get_or}
use Rattle.base.specs.Bytes.{Bytes}
use Rattle.base.specs.Lists.{every}
use Rattle.base.proofs.ListLaws.{every-at}
use Rattle.voice.specs.Voice.{Entry, Placed}
use Rattle.voice.specs.Extends.{Stands, here, there, neither}
use Rattle.units.specs.Selecting.{found_from, found_all, first_tried_found}
use Rattle.call.specs.SpokenCall.{SpokenCall}
use Rattle.worked.specs.Tried.{tried}
use Rattle.worked.specs.Files.{voice_file, sheet_file}
use Rattle.transcript.specs.Program.{program_settings, program_buffers}
use Rattle.worked.specs.ProvedExamples.{example_sheet}
use Rattle.law.specs.TwoCalls.{short_voice, long_voice, long_sheet, TwoCalls}

-- ---- a list of bytes, by a computed test

abbrev is_byte : ℕ → Bool
is_byte b = ltb b 256

byte_at : (s : List ℕ) (i : ℕ) → get_or (map is_byte s) i true ≡ is_byte (get_or s i 0)
byte_at [] i = refl
byte_at (b ∷ bs) zero = refl
byte_at (b ∷ bs) (suc i) = byte_at bs i

are-bytes : (s : List ℕ) → every (map is_byte s) ≡ true → Bytes s
are-bytes s e i = ltb-true _ _ (sym (byte_at s i) ∙ every-at (map is_byte s) e i)

-- ---- the calls

unfoldable short : SpokenCall
unfolding tried voice_file short_voice
short = record { voice_file = short_voice; sheet_file = example_sheet; settings = program_settings; lent = program_buffers; bytes = are-bytes short_voice refl; not_refused = refl }

unfoldable long : SpokenCall
unfolding tried voice_file sheet_file long_voice long_sheet
long = record { voice_file = long_voice; sheet_file = long_sheet; settings = program_settings; lent = program_buffers; bytes = are-bytes long_voice refl; not_refused = refl }

-- the entry of one stands second in the other
second : (x y z : Placed) → x.entry ≡ z.entry → (e : Entry) → Stands e (x ∷ []) → Stands e (y ∷ z ∷ [])
second x y z q e (here p) = there (here (p ∙ q))
second x y z q e (there m) = elim m [ ]

pub two-calls : TwoCalls
unfolding tried voice_file sheet_file short_voice long_voice long_sheet short long found_from found_all first_tried_found
two-calls =
    record {
      short = short;
      long = long;
      short_files = (refl, refl);
      long_files = (refl, refl);
      longer =
          record {
            settings = record { join = refl; filter = refl; fold = refl; strict = refl };
            extends =
                record {
                  rate = refl;
                  order = refl;
                  coeff_min = refl;
                  coeff_range = refl;
                  codec = refl;
                  frames = omega arith;
                  rows = refl;
                  sizes = neither;
                  offsets = refl;
                  residual = refl;
                  entries = second _ _ _ refl;
                };
            begins = record { segments = record { more = _; whole = refl }; targets = record { more = []; whole = refl } };
            found = refl;
          };
      frames = (refl, refl);
      entries = (refl, refl);
      segments = (refl, refl);
      periods = (refl, refl);
    }
