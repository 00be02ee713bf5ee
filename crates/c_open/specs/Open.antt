-- `diphone_open`: what it answers and what it leaves, by the bytes of the voice file.
use Rattle.std.specs.Prelude.{List, ◌++◌, ℕ, leb, length, take, None, Option, Some}
use Rattle.base.specs.Choice.{pick}
use Rattle.base.specs.Text.{ascii}
use Rattle.base.specs.Lists.{or_next}
use Rattle.base.specs.Buffers.{unless_refused}
use Rattle.base.specs.Bytes.{bytes_of}
use Rattle.refusal.specs.declared.Refusal.{Refusal}
use Rattle.refusal.specs.declared.Refusal.TheVariants.{ShortBuffer}
use Rattle.container.specs.Sections.{find, sections, span_of, bytes_at}
use Rattle.voice.specs.Voice.{voice_of}
use Rattle.voice.specs.Periods.{decode_room}
use Rattle.voice.specs.Opening.{open_refusal, index_bytes}

-- `sts.header`'s 40 bytes as stored, the number of entries, and the bytes that a call's decode buffer needs
unfoldable pub record_of : List ℕ → List ℕ
record_of file =
    take 40 (bytes_at file (span_of (find (ascii "sts.header") (sections file).list)))
    ++ (bytes_of 8 (length (voice_of file).entries) ++ bytes_of 8 (decode_room (voice_of file)))

-- DIPHONE_VOICE_BYTES
abbrev pub record_length : ℕ
record_length = 56

-- 1 to 7, then 13 for an index of n bytes and for a record of m
unfoldable pub refusal_of_open : List ℕ → ℕ → ℕ → Option Refusal
refusal_of_open file n m = or_next (open_refusal file n) (pick (leb record_length m) None (Some ShortBuffer))

-- the index and the record afterwards
abbrev pub index_left : List ℕ → List ℕ → ℕ → List ℕ
index_left file old m = unless_refused (refusal_of_open file (length old) m) (index_bytes (voice_of file)) old

abbrev pub record_left : List ℕ → ℕ → List ℕ → List ℕ
record_left file n old = unless_refused (refusal_of_open file n (length old)) (record_of file) old
