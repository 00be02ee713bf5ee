-- A voice as its tables and entries, and its sorted index.
use Rattle.std.specs.Prelude.{Bool, true, false, ◌&&◌, List, [], ◌∷◌, map, ℕ, zero, suc, ◌+◌, ◌-◌, leb, length, get_or, None, Option, Some}
use Rattle.base.specs.Choice.{pick}
use Rattle.base.specs.Text.{ascii}
use Rattle.base.specs.Lists.{part}
use Rattle.base.specs.Bytes.{little_endian}
use Rattle.base.specs.declared.Span.{Span}
use Rattle.text.specs.Names.{same, before}
use Rattle.text.specs.Utf8.{utf8}
use Rattle.container.specs.Sections.{find, span_of, bytes_at, sections}
use Rattle.voice.specs.declared.VoiceHeader.{VoiceHeader}
use Rattle.voice.specs.declared.DiphoneVoice.{DiphoneVoice}
use Rattle.voice.specs.Header.{header_of}

-- ---- `dip.index`: count u32, then for each entry name length u8, name, start u16, two halves u8

pub record Entry : Type 0 where
  pub name : List ℕ
  pub start : ℕ
  pub first : ℕ
  pub second : ℕ

-- an entry, and the place of its name-length byte among the entries' bytes
pub record Placed : Type 0 where
  pub at : ℕ
  pub entry : Entry

-- the entry that begins at a place of the entries' bytes, and where the next begins
unfoldable pub entry_at : List ℕ → ℕ → Entry
entry_at bs at =
    let n = get_or bs at 0 in
    record {
      name = part bs (at + 1) n;
      start = little_endian 2 bs (at + 1 + n);
      first = get_or bs (at + 3 + n) 0;
      second = get_or bs (at + 4 + n) 0;
    }

abbrev pub next_entry : List ℕ → ℕ → ℕ
next_entry bs at = at + 5 + get_or bs at 0

-- not cut short, and its name is UTF-8
unfoldable pub whole_entry : List ℕ → ℕ → Bool
whole_entry bs at = leb (next_entry bs at) (length bs) && utf8 (entry_at bs at).name

-- the entries in file order, up to the first that is not whole; whether all are
pub record Index : Type 0 where
  pub whole : Bool
  pub list : List Placed

abbrev pub with_entry : Placed → Index → Index
with_entry p i = record { whole = i.whole; list = p ∷ i.list }

-- n entries from a place on
unfoldable pub entries_from : ℕ → List ℕ → ℕ → Index
entries_from zero bs at = record { whole = true; list = [] }
entries_from (suc n) bs at =
    elim (whole_entry bs at) [
      | false ↦ record { whole = false; list = [] }
      | true ↦ with_entry (record { at = at; entry = entry_at bs at }) (entries_from n bs (next_entry bs at))
    ]

-- ---- a voice

-- The tables' bytes (`sts.lpc`, `sts.resoffs`, `sts.ressize` where the file has it, `sts.res`) and the entries in file order;
-- `index_at` is where the entries' bytes begin in the file.
pub record Voice : Type 0 where
  pub header : VoiceHeader
  pub lpc : List ℕ
  pub offsets : List ℕ
  pub sizes : Option (List ℕ)
  pub residual : List ℕ
  pub entries : List Placed
  pub index_at : ℕ

abbrev pub sizes_at : List ℕ → Option Span → Option (List ℕ)
sizes_at file (Some s) = Some (bytes_at file s)
sizes_at file None = None

-- the voice whose header and tables stand at these places of a file
unfoldable pub voice_at : List ℕ → DiphoneVoice → Voice
voice_at file d =
    record {
      header = d.header;
      lpc = bytes_at file d.lpc;
      offsets = bytes_at file d.offsets;
      sizes = sizes_at file d.sizes;
      residual = bytes_at file d.residual;
      entries = (entries_from d.count (bytes_at file d.entries) 0).list;
      index_at = d.entries.at;
    }

-- the index's count, and its bytes after the count
abbrev pub count_of : List ℕ → Span → ℕ
count_of file s = little_endian 4 (bytes_at file s) 0

abbrev pub after_count : Span → Span
after_count s = record { at = s.at + 4; len = s.len - 4 }

-- where a file's header, tables and index stand; of a file that does not open, wherever these rules lead
unfoldable pub places_of : List ℕ → DiphoneVoice
places_of file =
    let ss = (sections file).list in
    let index = span_of (find (ascii "dip.index") ss) in
    record {
      header = header_of (bytes_at file (span_of (find (ascii "sts.header") ss)));
      lpc = span_of (find (ascii "sts.lpc") ss);
      offsets = span_of (find (ascii "sts.resoffs") ss);
      sizes = find (ascii "sts.ressize") ss;
      residual = span_of (find (ascii "sts.res") ss);
      count = count_of file index;
      entries = after_count index;
    }

unfoldable pub voice_of : List ℕ → Voice
voice_of file = voice_at file (places_of file)

-- ---- entries by name

-- what the index has under a name
unfoldable pub lookup : List ℕ → List Placed → Option Entry
lookup n [] = None
lookup n (p ∷ ps) = pick (same p.entry.name n) (Some p.entry) (lookup n ps)

abbrev pub is_some : {A : Type 0} → Option A → Bool
is_some None = false
is_some (Some x) = true

-- 'Names sort by bytes': the entries in name order
unfoldable pub insert : Placed → List Placed → List Placed
insert p [] = p ∷ []
insert p (q ∷ qs) = pick (before p.entry.name q.entry.name) (p ∷ q ∷ qs) (q ∷ insert p qs)

unfoldable pub sort : List Placed → List Placed
sort [] = []
sort (p ∷ ps) = insert p (sort ps)

unfoldable pub sorted : Voice → List Placed
sorted v = sort v.entries

-- the sorted index: 'per entry, in name order, the file offset of its name-length byte'
unfoldable pub sorted_index : Voice → List ℕ
sorted_index v = map (λ (p : Placed). v.index_at + p.at) (sorted v)
