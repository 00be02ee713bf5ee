-- Inner: The lines of a report, 16 bytes each.
use Rattle.std.specs.Prelude.{List, ℕ, ◌+◌, ◌*◌, ◌/◌, ◌≤◌, ◌<◌, length}
use Rattle.base.specs.Buffers.{upto}
use Rattle.base.specs.Bytes.{u32_at}
use Rattle.reporting.specs.Report.{Line}

-- line number i, from 0
abbrev pub line_at : List ℕ → ℕ → Line
line_at bytes i =
    record { pair = u32_at bytes (4 * i); half = u32_at bytes (4 * i + 1); first = u32_at bytes (4 * i + 2); size = u32_at bytes (4 * i + 3) }

unfoldable pub lines_in : List ℕ → List Line
lines_in bytes = upto (line_at bytes) (length bytes / 16)

-- a line of numbers that have up to five digits
pub record Short (l : Line) : Type 0 where
  pub pair : l.pair < 100000
  pub half : l.half < 100000
  pub first : l.first < 100000
  pub size : l.size < 100000

-- up to 1,024 such lines
pub record Printable (bytes : List ℕ) : Type 0 where
  pub few : length bytes ≤ 16384
  pub short : (i : ℕ) → i < length bytes / 16 → Short (line_at bytes i)
