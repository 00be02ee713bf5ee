-- Document 01, 'Proved examples': the lines that its program prints, as bytes; and the line of document 02's period report.
use Rattle.std.specs.Prelude.{◌≡◌, List, [], ◌∷◌, ◌++◌, ℕ, ◌+◌, ◌-◌, ◌/◌, ◌%◌, ltb, length, get_or}
use Rattle.std.proofs.lemmas.List.Edits.{sets}
use Rattle.base.specs.Choice.{pick}
use Rattle.base.specs.Buffers.{flat, upto}
use Rattle.base.specs.Text.{ascii}

-- a text was put at place `at` of a buffer, and ends before place `end`
pub record Puts (before : List ℕ) (at : ℕ) (text after : List ℕ) (end : ℕ) : Type 0 where
  pub left : after ≡ sets before at text
  pub ended : end ≡ at + length text

-- the digit of n that stands for 10, 100, ..; none where n is below that
unfoldable pub digit : ℕ → ℕ → List ℕ
digit n unit = pick (ltb n unit) [] ((n / unit % 10 + 48) ∷ [])

-- a number below 100,000 in decimal, with no zero in front
unfoldable pub decimal : ℕ → List ℕ
decimal n = digit n 10000 ++ (digit n 1000 ++ (digit n 100 ++ (digit n 10 ++ ((n % 10 + 48) ∷ []))))

-- a sample, given as its word of 16 bits: a minus sign (45) where it is negative
unfoldable pub sample : ℕ → List ℕ
sample word = pick (ltb word 32768) (decimal word) (45 ∷ decimal (65536 - word))

-- a blank (32), and a sample
unfoldable pub next : ℕ → List ℕ
next word = 32 ∷ sample word

unfoldable pub samples : List ℕ → List ℕ
samples words = flat next words

-- 'period number, size, samples', and the line's end (10)
unfoldable pub period : ℕ → List ℕ → List ℕ
period number words = decimal number ++ (32 ∷ (decimal (length words) ++ (samples words ++ (10 ∷ []))))

-- 'First line: rate, periods, samples'
unfoldable pub summary : ℕ → ℕ → ℕ → List ℕ
summary rate periods samples = decimal rate ++ (32 ∷ (decimal periods ++ (32 ∷ (decimal samples ++ (10 ∷ [])))))

-- 'A refusal prints only `refused`, a space and the number'
unfoldable pub refused : ℕ → List ℕ
refused number = ascii "refused " ++ (decimal number ++ (10 ∷ []))

-- document 02, A2: 'period number, pair, half, first sample counted from 0, size'
unfoldable pub report_line : ℕ → ℕ → ℕ → ℕ → ℕ → List ℕ
report_line number pair half first size =
    decimal number
    ++ (32 ∷ (decimal pair ++ (32 ∷ (decimal half ++ (32 ∷ (decimal first ++ (32 ∷ (decimal size ++ (10 ∷ [])))))))))

-- the lines of periods, numbered from 1 on
unfoldable pub periods : List (List ℕ) → List ℕ
periods ps = flat (λ (line : List ℕ). line) (upto (λ (k : ℕ). period (k + 1) (get_or ps k [])) (length ps))
