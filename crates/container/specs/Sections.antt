-- Document 01, 'Voice file': after the magic, sections repeat: name length (1 byte), name, data length (u32), data.
use Rattle.std.specs.Prelude.{Bool, true, false, ◌&&◌, List, [], ◌∷◌, ℕ, zero, suc, ◌+◌, ltb, leb, length, get_or, take, None, Option, Some}
use Rattle.base.specs.Choice.{pick}
use Rattle.base.specs.Text.{ascii}
use Rattle.base.specs.Lists.{every, part}
use Rattle.base.specs.Bytes.{little_endian}
pub use Rattle.base.specs.Spans.{bytes_at}
use Rattle.base.specs.declared.Span.{Span}
use Rattle.text.specs.Names.{same}
use Rattle.text.specs.Utf8.{utf8}
use Rattle.text.specs.Trim.{trim}

-- `FLRSDAT` and 0x01
unfoldable pub magic : List ℕ
magic = ascii "FLRSDAT\u{1}"

unfoldable pub has_magic : List ℕ → Bool
has_magic file = same (take 8 file) magic

-- ---- the section that begins at a place of the file: its name, where the data's length and the data stand, where the next begins

abbrev pub section_name : List ℕ → ℕ → List ℕ
section_name file at = part file (at + 1) (get_or file at 0)

abbrev pub length_place : List ℕ → ℕ → ℕ
length_place file at = at + 1 + get_or file at 0

abbrev pub data_place : List ℕ → ℕ → ℕ
data_place file at = length_place file at + 4

abbrev pub data_length : List ℕ → ℕ → ℕ
data_length file at = little_endian 4 file (length_place file at)

abbrev pub next_place : List ℕ → ℕ → ℕ
next_place file at = data_place file at + data_length file at

-- not cut short, and its name is UTF-8
unfoldable pub is_whole : List ℕ → ℕ → Bool
is_whole file at = every (leb (data_place file at) (length file) ∷ utf8 (section_name file at) ∷ leb (next_place file at) (length file) ∷ [])

-- ---- all sections

-- a section's name, and where its data stand in the file
pub record Section : Type 0 where
  pub name : List ℕ
  pub span : Span

-- the sections in file order, up to the first that is not whole; whether all are
pub record Sections : Type 0 where
  pub whole : Bool
  pub list : List Section

abbrev pub section_at : List ℕ → ℕ → Section
section_at file at = record { name = section_name file at; span = record { at = data_place file at; len = data_length file at } }

abbrev pub with_section : Section → Sections → Sections
with_section s r = record { whole = r.whole; list = s ∷ r.list }

-- From a place on. The number counts turns, so that the definition ends: at most n sections are read.
unfoldable pub sections_from : ℕ → List ℕ → ℕ → Sections
sections_from zero file at = record { whole = true; list = [] }
sections_from (suc n) file at =
    elim (ltb at (length file)) [
      | false ↦ record { whole = true; list = [] }
      | true ↦
          elim (is_whole file at) [
            | false ↦ record { whole = false; list = [] }
            | true ↦ with_section (section_at file at) (sections_from n file (next_place file at))
          ]
    ]

-- a section has 5 bytes or more, so as many turns as the file has bytes never run out
unfoldable pub sections : List ℕ → Sections
sections file = sections_from (length file) file 8

-- ---- a section by its name

-- 'The first section of a name counts'
unfoldable pub find : List ℕ → List Section → Option Span
find name [] = None
find name (s ∷ ss) = pick (same s.name name) (Some s.span) (find name ss)

abbrev pub is_found : Option Span → Bool
is_found (Some s) = true
is_found None = false

-- where its data stand (`bytes_at` has the data); nothing where it is missing
abbrev pub span_of : Option Span → Span
span_of (Some s) = s
span_of None = record { at = 0; len = 0 }

-- the bytes are UTF-8 and say `diphone`, but for white space around it
abbrev pub names_diphone : List ℕ → Bool
names_diphone bs = utf8 bs && same (trim bs) (ascii "diphone")

-- `Container::backend` gives `Diphone`: the section `voice.backend` is missing or says so
unfoldable pub says_diphone : List ℕ → Option Span → Bool
says_diphone file None = true
says_diphone file (Some s) = names_diphone (bytes_at file s)

unfoldable pub is_diphone : List ℕ → Bool
is_diphone file = says_diphone file (find (ascii "voice.backend") (sections file).list)
