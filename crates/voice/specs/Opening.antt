-- Document 01, 'Refused calls': what opening a voice file checks, 1 to 7 in order.
use Rattle.std.specs.Prelude.{◌≡◌, Bool, true, false, ◌&&◌, not, List, [], ◌∷◌, ℕ, zero, suc, ◌+◌, ◌*◌, ◌/◌, leb, length, Err, None, Ok, Option, Result, Some}
use Rattle.base.specs.declared.Span.{Span}
use Rattle.base.specs.Choice.{pick}
use Rattle.base.specs.Text.{ascii}
use Rattle.base.specs.Lists.{every, first_failing, or_next}
use Rattle.base.specs.Buffers.{unless_refused, flat}
use Rattle.base.specs.Bytes.{bytes_of, u32_at}
use Rattle.refusal.specs.declared.Refusal.{Refusal}
use Rattle.refusal.specs.declared.Refusal.TheVariants.{BadMagic, SectionCut, NotDiphone, MissingSection, BadHeader, BadTables, BadIndex, ShortBuffer}
use Rattle.refusal.specs.Number.{number_of}
use Rattle.container.specs.Sections.{Section, has_magic, sections, find, is_found, span_of, bytes_at, is_diphone}
use Rattle.voice.specs.declared.DiphoneVoice.{DiphoneVoice}
use Rattle.voice.specs.Header.{good_header}
use Rattle.voice.specs.Voice.{Entry, Placed, Voice, entries_from, places_of, voice_of, lookup, is_some, sorted_index}
use Rattle.voice.specs.Periods.{offset}

-- 4: the needed sections are there
unfoldable pub has_needed : List Section → Bool
has_needed ss =
    every
    (is_found (find (ascii "sts.header") ss)
    ∷ is_found (find (ascii "sts.lpc") ss)
    ∷ is_found (find (ascii "sts.resoffs") ss)
    ∷ is_found (find (ascii "sts.res") ss)
    ∷ is_found (find (ascii "dip.index") ss)
    ∷ [])

-- 6: the first n + 1 offsets do not fall
unfoldable pub rising_in : List ℕ → ℕ → Bool
rising_in offsets zero = true
rising_in offsets (suc n) = leb (u32_at offsets n) (u32_at offsets (suc n)) && rising_in offsets n

abbrev pub long_enough : Option (List ℕ) → ℕ → Bool
long_enough None n = true
long_enough (Some bs) n = leb n (length bs)

-- the same by the section's place
abbrev pub has_sizes : Option Span → ℕ → Bool
has_sizes (Some s) n = leb n s.len
has_sizes None n = true

-- the greatest length of `sts.res`
abbrev pub residual_limit : ℕ
residual_limit = 16777215

-- 6: `sts.res` has at most 16,777,215 bytes; `sts.lpc` at least frames × order × 2, `sts.ressize` frames and `sts.resoffs`
-- (frames + 1) × 4; the first frames + 1 offsets do not fall, and the last is not past the residual
unfoldable pub good_tables : Voice → Bool
good_tables v =
    let n = v.header.frames in
    every
    (leb (length v.residual) residual_limit
    ∷ leb (n * v.header.order * 2) (length v.lpc)
    ∷ long_enough v.sizes n
    ∷ leb ((n + 1) * 4) (length v.offsets)
    ∷ rising_in v.offsets n
    ∷ leb (offset v n) (length v.residual)
    ∷ [])

-- 7: where an entry's periods end, one past its last
abbrev pub end_period : Entry → ℕ
end_period e = e.start + e.first + e.second

unfoldable pub within_frames : ℕ → List Placed → Bool
within_frames n [] = true
within_frames n (p ∷ ps) = leb (end_period p.entry) n && within_frames n ps

-- no name stands twice
unfoldable pub distinct : List Placed → Bool
distinct [] = true
distinct (p ∷ ps) = not (is_some (lookup p.entry.name ps)) && distinct ps

abbrev pub is_empty : List Placed → Bool
is_empty [] = true
is_empty (p ∷ ps) = false

-- 7, by its five causes; `entries_from` stops at an entry that is cut short or whose name is not UTF-8, and is then not whole
unfoldable pub good_index : List ℕ → Bool
good_index file =
    let d = places_of file in
    let i = entries_from d.count (bytes_at file d.entries) 0 in
    every
    -- the count is not cut short
    (leb 4 (span_of (find (ascii "dip.index") (sections file).list)).len
    -- no entry is cut short, and each name is UTF-8
    ∷ i.whole
    -- the index is not empty
    ∷ not (is_empty i.list)
    -- no name stands twice
    ∷ distinct i.list
    -- no entry ends past the frames
    ∷ within_frames d.header.frames i.list
    ∷ [])

-- 5 to 7, with their causes
abbrev pub table_checks : List ℕ → List (Bool × Refusal)
table_checks file =
    (good_header (bytes_at file (span_of (find (ascii "sts.header") (sections file).list))), BadHeader)
    ∷ (good_tables (voice_of file), BadTables)
    ∷ (good_index file, BadIndex)
    ∷ []

-- what refuses a voice file, whatever index buffer comes with it: 1 to 7
unfoldable pub opening_refusal : List ℕ → Option Refusal
opening_refusal file =
    first_failing
    ((has_magic file, BadMagic)
    ∷ ((sections file).whole, SectionCut)
    ∷ (is_diphone file, NotDiphone)
    ∷ (has_needed (sections file).list, MissingSection)
    ∷ table_checks file)

-- a voice file that opens, and where its tables stand
pub record IsOpen (file : List ℕ) (d : DiphoneVoice) : Type 0 where
  pub places : d ≡ places_of file
  pub fit : opening_refusal file ≡ None

-- 13: an index buffer of n bytes has 8 for each entry
unfoldable pub index_fits : Voice → ℕ → Bool
index_fits v n = leb (length v.entries) (n / 8)

-- An opening with an index buffer of n bytes: 1 to 7, then 13.
unfoldable pub open_refusal : List ℕ → ℕ → Option Refusal
open_refusal file n = or_next (opening_refusal file) (pick (index_fits (voice_of file) n) None (Some ShortBuffer))

abbrev pub answer_opening : DiphoneVoice → Option Refusal → Result DiphoneVoice Refusal
answer_opening d None = Ok d
answer_opening d (Some r) = Err r

unfoldable pub open_of : List ℕ → ℕ → Result DiphoneVoice Refusal
open_of file n = answer_opening (places_of file) (open_refusal file n)

-- the bytes of the sorted index
abbrev pub index_bytes : Voice → List ℕ
index_bytes v = flat (bytes_of 8) (sorted_index v)

-- the index buffer afterwards: on a refusal as it was
unfoldable pub index_after : List ℕ → List ℕ → List ℕ
index_after file old = unless_refused (open_refusal file (length old)) (index_bytes (voice_of file)) old

-- document 01's number for an answer: 0 where the voice opens
abbrev pub open_number : Result DiphoneVoice Refusal → ℕ
open_number (Ok d) = 0
open_number (Err r) = number_of r
