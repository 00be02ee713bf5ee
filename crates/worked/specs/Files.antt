-- Voice files and sheets of given parts, for the examples.
use Rattle.std.specs.Prelude.{List, [], ◌∷◌, ◌++◌, ℕ, length, replicate}
use Rattle.base.specs.Text.{ascii}
use Rattle.base.specs.Buffers.{flat}
use Rattle.base.specs.Bytes.{bytes_of}

-- a section: its name and data
abbrev pub section_bytes : List ℕ → List ℕ → List ℕ
section_bytes name bytes = length name ∷ (name ++ (bytes_of 4 (length bytes) ++ bytes))

-- a header of frames, order and rate, with coeff_min and coeff_range by their bits; mu-law, no fold
abbrev pub header_bytes : ℕ → ℕ → ℕ → ℕ → ℕ → List ℕ
header_bytes frames order rate least range = flat (bytes_of 4) (frames ∷ order ∷ rate ∷ least ∷ range ∷ []) ++ replicate 20 0

-- an index entry: its name, start period and halves
abbrev pub entry_bytes : List ℕ → ℕ → ℕ → ℕ → List ℕ
entry_bytes name start first second = length name ∷ (name ++ (bytes_of 2 start ++ (first ∷ second ∷ [])))

-- a voice of a header, rows, offsets, a residual, and the bytes of each entry
unfoldable pub voice_file : List ℕ → List ℕ → List ℕ → List ℕ → List (List ℕ) → List ℕ
voice_file header rows offsets residual entries =
    ascii "FLRSDAT\u{1}"
    ++ (section_bytes (ascii "sts.header") header
    ++ (section_bytes (ascii "sts.lpc") rows
    ++ (section_bytes (ascii "sts.resoffs") (flat (bytes_of 4) offsets)
    ++ (section_bytes (ascii "sts.res") residual
    ++ section_bytes (ascii "dip.index") (bytes_of 4 (length entries) ++ flat (λ (e : List ℕ). e) entries)))))

-- a segment of a name, with an absent end and no follower
abbrev pub segment_bytes : List ℕ → List ℕ
segment_bytes name = length name ∷ (name ++ (2 ∷ 0 ∷ []))

-- a sheet of fewer than 128 such segments, and no target
unfoldable pub sheet_file : List (List ℕ) → List ℕ
sheet_file names = length names ∷ (flat segment_bytes names ++ (0 ∷ []))
