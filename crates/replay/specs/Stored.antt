-- The stored calls: one after the other, each a head of 20 bytes, then a voice, a sheet and the text that the Rust's answer makes. The
-- head's first byte is 0 where no voice follows, but that of the call before is used.
use Rattle.std.specs.Prelude.{◌≡◌, Bool, true, ◌&&◌, List, [], ◌∷◌, ℕ, zero, suc, ◌+◌, ◌-◌, ◌≤◌, eqb, leb, length, get_or, take, replicate}
use Rattle.base.specs.Choice.{pick}
use Rattle.base.specs.Bytes.{u16_at}
use Rattle.text.specs.Names.{same}
use Rattle.call.specs.Buffers.{Buffers, lent}
use Rattle.call.specs.Numbers.{settings_of}
use Rattle.lines.specs.Lines.{refused}
use Rattle.transcript.specs.CallText.{call_text}
use Rattle.transcript.specs.Program.{voice_limit, sheet_limit}
use Rattle.replay.specs.declared.Found.{Found}
use Rattle.replay.specs.declared.Found.TheVariants.{End, Damaged, Call}

-- ---- the head

-- its lengths, after two bytes: 0 voice, 1 sheet, 2 to 7 the buffers lent, 8 text
abbrev pub length_at : List ℕ → ℕ → ℕ
length_at head i = u16_at head (i + 1)

abbrev pub limits : List ℕ
limits = voice_limit ∷ sheet_limit ∷ 8192 ∷ 4096 ∷ 4096 ∷ 2048 ∷ 4096 ∷ 1024 ∷ 41000 ∷ []

-- none of the first n lengths is above its limit
unfoldable pub fitting : List ℕ → ℕ → Bool
fitting head zero = true
fitting head (suc n) = fitting head n && leb (length_at head n) (get_or limits n 0)

-- none of the nine
abbrev pub fits : List ℕ → Bool
fits head = fitting head 9

-- a head that was read and fits
pub record Fits (head : List ℕ) : Type 0 where
  pub whole : length head ≡ 20
  pub low : fits head ≡ true

-- the buffers lent: the fronts of buffers that begin as those of the program `speak`
unfoldable pub buffers_of : List ℕ → Buffers
buffers_of head =
    lent (take (length_at head 2) (replicate 8192 0)) (take (length_at head 3) (replicate 4096 0)) (take (length_at head 4) (replicate 4096 0))
    (take (length_at head 5) (replicate 2048 0)) (take (length_at head 6) (replicate 4096 255)) (take (length_at head 7) (replicate 1024 0))

-- ---- the answer

-- the call's text, by document 01; the head's second byte is the word of the settings
unfoldable pub text_of : List ℕ → List ℕ → List ℕ → List ℕ
text_of head voice sheet = call_text voice sheet (settings_of (get_or head 1 0)) (buffers_of head)

-- whether the stored text is that
abbrev pub agrees : List ℕ → List ℕ → List ℕ → List ℕ → Bool
agrees head voice sheet want = same (text_of head voice sheet) want

-- the kind of a text up to n: the number of a refusal, else 0
unfoldable pub kind_up_to : List ℕ → ℕ → ℕ
kind_up_to text zero = 0
kind_up_to text (suc n) = pick (same (refused (suc n)) text) (suc n) (kind_up_to text n)

-- the last number of a refusal, by document 02; a text is of kind 0, spoken, or of a refusal's
abbrev pub last_kind : ℕ
last_kind = 22

abbrev pub kind_of : List ℕ → ℕ
kind_of text = kind_up_to text last_kind

-- 1 for the end of a line (10)
abbrev pub line_end : ℕ → ℕ
line_end byte = pick (eqb byte 10) 1 0

unfoldable pub lines_in : List ℕ → ℕ
lines_in [] = 0
lines_in (byte ∷ text) = line_end byte + lines_in text

-- the periods of a text: its lines after the first
abbrev pub periods_in : List ℕ → ℕ
periods_in text = lines_in text - 1

-- ---- the file

-- what is found of a stored call
unfoldable pub compared : List ℕ → List ℕ → List ℕ → List ℕ → Found
compared head voice sheet want = Call (length voice) (kind_of want) (periods_in want) (agrees head voice sheet want)

-- of what is found: the voice's length, the text's kind and periods; 0 where it is no call
abbrev pub voice_in : Found → ℕ
voice_in End = 0
voice_in Damaged = 0
voice_in (Call v kind periods same) = v

abbrev pub kind_in : Found → ℕ
kind_in End = 0
kind_in Damaged = 0
kind_in (Call v kind periods same) = kind

abbrev pub count_in : Found → ℕ
count_in End = 0
count_in Damaged = 0
count_in (Call v kind periods same) = periods

-- a call that was read has a voice of at most 32,768 bytes, a kind and at most 41,000 periods
abbrev pub Sound : Found → Type 0
Sound found = (voice_in found ≤ 32768) × ((kind_in found ≤ last_kind) × (count_in found ≤ 41000))
