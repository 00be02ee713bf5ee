-- Inner: What a selection asks of its voice, its index and its segments.
use Rattle.std.specs.Prelude.{◌≡◌, List, ℕ, ◌+◌, ◌≤◌, length}
use Rattle.container.specs.Sections.{bytes_at}
use Rattle.voice.specs.Opening.{IsOpen}
use Rattle.voice.specs.declared.DiphoneVoice.{DiphoneVoice}
use Rattle.index.specs.Index.{Filled}
use Rattle.sparse.specs.declared.Spacing.{Spacing}
use Rattle.sparse.specs.Sparse.{SparseIndex}
use Rattle.sheet.specs.declared.Segment.{Segment}
use Rattle.sheet.specs.Sheet.{sheet_of}
use Rattle.sheet.specs.Followers.{name_of}
use Rattle.units.specs.declared.Held.{Held}
use Rattle.units.specs.declared.Held.TheVariants.{Sorted, Sparse}
use Rattle.units.specs.declared.Selection.{Selection}

-- what an index buffer holds of a voice's entries
pub record Holds (file index : List ℕ) (d : DiphoneVoice) (held : Held) : Type 0 where
  pub sorted : held ≡ Sorted → Filled (bytes_at file d.entries) d.count d.entries.at index
  pub sparse : (by : Spacing) → held ≡ Sparse by → SparseIndex (bytes_at file d.entries) d.count by index

-- an open voice, and an index buffer
pub record Searchable (file index : List ℕ) (by : Selection) : Type 0 where
  pub opened : IsOpen file by.voice
  pub holds : Holds file index by.voice by.held

-- the segment's name stands in the sheet, and has at most 32 bytes
pub record Named (sheet : List ℕ) (s : Segment) : Type 0 where
  pub within : s.name.at + s.name.len ≤ length sheet
  pub short : s.name.len ≤ 32

-- the segment's number from 1, by which followers name it
abbrev pub Numbered : List ℕ → Segment → ℕ → Type 0
Numbered sheet s n = bytes_at sheet s.name ≡ name_of (sheet_of sheet).segments n
