-- Inner: The values of a row, as words.
use Rattle.std.specs.Prelude.{ℕ, List, ℤ}
use Rattle.base.specs.Bytes.{u16_at}
use Rattle.base.specs.Words.{low}
use Rattle.lpc.specs.Fixed.{row_value}

-- value k of a row that is stored as bytes
abbrev pub value_at : ℤ → ℤ → List ℕ → ℕ → ℕ
value_at min_q range_q row k = low 32 (row_value min_q range_q (u16_at row k))
