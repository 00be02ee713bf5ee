-- What is compared with the outside vectors. tools/make-vectors says what each file has.
use Rattle.std.specs.Prelude.{List, ◌≡◌, false, ℕ, ◌+◌, ◌*◌, ◌%◌, ◌≤◌, eqb, leb, length, get_or, drop}
use Rattle.base.specs.Choice.{pick}
use Rattle.base.specs.Bytes.{little_endian, u16_at}
use Rattle.base.specs.Lists.{part}
use Rattle.base.specs.Words.{low, signed16}
use Rattle.ulaw.specs.Ulaw.{sample_of, ulaw_of}
use Rattle.adpcm.specs.Decoder.{signals_of, codes_of, decoded, state_at}
use Rattle.vectors.specs.declared.Tally.{Tally}
use Rattle.vectors.specs.Tallies.{one, joined, all_of}

-- ---- mu-law

-- the sample of a byte, as its word
abbrev pub decoding : List ℕ → ℕ → Tally
decoding words byte = one (eqb (low 16 (sample_of byte)) (u16_at words byte))

-- the byte of the sample that has a word
abbrev pub encoding : ℕ → ℕ → ℕ → Tally
encoding word byte k = one (eqb (ulaw_of (signed16 ((word + k) % 65536))) byte)

-- the run at index i of a list of runs: first word, count, byte
unfoldable pub run : List ℕ → ℕ → Tally
run runs i = all_of (encoding (little_endian 2 runs (5 * i)) (get_or runs (5 * i + 4) 0)) (little_endian 2 runs (5 * i + 2))

-- ---- the G.721 decoder

-- 4 times the SR of code k, kept to 16 bits
abbrev pub word_at : List ℕ → ℕ → ℕ
word_at codes k = 4 * (signals_of (state_at codes k) (get_or codes k 0)).sr % 65536

abbrev pub sample : List ℕ → List ℕ → ℕ → Tally
sample packed words k = one (eqb (word_at (codes_of packed) k) (u16_at words k))

abbrev pub byte : List ℕ → List ℕ → ℕ → Tally
byte got want k = one (eqb (get_or got k 0) (get_or want k 0))

-- a period's samples, then its mu-law bytes
unfoldable pub period : List ℕ → List ℕ → List ℕ → Tally
period packed words bytes =
    joined (all_of (sample packed words) (2 * length packed)) (all_of (byte (decoded packed) bytes) (2 * length packed))

-- for each packed byte two samples and two mu-law bytes
pub record Sized (codes words bytes : List ℕ) : Type 0 where
  pub short : length codes ≤ 65536
  pub per_word : length words ≡ 4 * length codes
  pub per_byte : length bytes ≡ 2 * length codes

-- the period at index i of a list of periods: first packed byte, count. One that does not lie within the codes disagrees.
unfoldable pub period_at : List ℕ → List ℕ → List ℕ → List ℕ → ℕ → Tally
period_at periods codes words bytes i =
    let from = u16_at periods (2 * i) in
    let count = u16_at periods (2 * i + 1) in
    pick (leb (from + count) (length codes)) (period (part codes from count) (drop (4 * from) words) (drop (2 * from) bytes)) (one false)
