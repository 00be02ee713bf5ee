-- Two spoken calls of which the second is longer. The first voice has 2 frames and the entry `pau-aa`, the first sheet the segments `pau`
-- and `aa`; the second voice has a frame more, and the entry `aa-pau` before the other, and the second sheet has `pau` besides.
use Rattle.std.specs.Prelude.{◌≡◌, List, [], ◌∷◌, ◌++◌, ℕ, length}
use Rattle.base.specs.Text.{ascii}
use Rattle.base.specs.Buffers.{flat}
use Rattle.base.specs.Bytes.{bytes_of}
use Rattle.call.specs.SpokenCall.{SpokenCall, voice_in, sheet_in, periods_in}
use Rattle.worked.specs.Files.{header_bytes, entry_bytes, voice_file, sheet_file}
use Rattle.worked.specs.ProvedExamples.{example_entry, example_residual, example_sheet}
use Rattle.law.specs.Longer.{Longer}

-- order 1, rate 8000, coeff_min -1 and coeff_range 2 by their bits
abbrev pub header : ℕ → List ℕ
header frames = header_bytes frames 1 8000 0xBF800000 0x40000000

unfoldable pub short_voice : List ℕ
short_voice = voice_file (header 2) (flat (bytes_of 2) (40000 ∷ 30000 ∷ [])) (0 ∷ 2 ∷ 5 ∷ []) example_residual (example_entry ∷ [])

unfoldable pub long_voice : List ℕ
long_voice =
    voice_file (header 3) (flat (bytes_of 2) (40000 ∷ 30000 ∷ 50000 ∷ [])) (0 ∷ 2 ∷ 5 ∷ 9 ∷ []) (example_residual ++ (1 ∷ 2 ∷ 3 ∷ 4 ∷ []))
    (entry_bytes (ascii "aa-pau") 2 1 0 ∷ example_entry ∷ [])

unfoldable pub long_sheet : List ℕ
long_sheet = sheet_file (ascii "pau" ∷ ascii "aa" ∷ ascii "pau" ∷ [])

pub record TwoCalls : Type 0 where
  pub short : SpokenCall
  pub long : SpokenCall
  pub short_files : (short.voice_file ≡ short_voice) × (short.sheet_file ≡ example_sheet)
  pub long_files : (long.voice_file ≡ long_voice) × (long.sheet_file ≡ long_sheet)
  pub longer : Longer long short
  -- frames, entries, segments and periods of either
  pub frames : ((voice_in short).header.frames ≡ 2) × ((voice_in long).header.frames ≡ 3)
  pub entries : (length (voice_in short).entries ≡ 1) × (length (voice_in long).entries ≡ 2)
  pub segments : (length (sheet_in short).segments ≡ 2) × (length (sheet_in long).segments ≡ 3)
  pub periods : (length (periods_in short) ≡ 2) × (length (periods_in long) ≡ 3)
