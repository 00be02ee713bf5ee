-- Document 01, 'Filters': the fixed filter. History and accumulator are words of 32 bits in two's complement: sums and products modulo 2 ^
-- 32.
use Rattle.std.specs.Prelude.{List, [], ◌∷◌, map, ℕ, suc, ◌+◌, ◌*◌, ◌/◌, ◌%◌, ◌^◌, ℤ, pos, ◌+ℤ◌, ◌*ℤ◌, Float}
use Rattle.std.specs.Int.Signed.{quot_z}
use Rattle.std.specs.Float.{binary32}
use Rattle.std.specs.Float.Ieee.{mul, of_int, to_signed}
use Rattle.base.specs.Words.{low, signed32}
use Rattle.ulaw.specs.Ulaw.{sample_of}
use Rattle.lpc.specs.Filter.{Filter}

-- 'min_q = coeff_min × 32768 and range_q = coeff_range × 2048 truncated'
unfoldable pub scaled_by : ℕ → Float → ℤ
scaled_by n x = to_signed 31 (mul binary32 x (of_int binary32 (pos n)))

-- 'row value ((q / 2 × range_q) / 2048 + min_q) / 2, divisions towards zero'
unfoldable pub row_value : ℤ → ℤ → ℕ → ℤ
row_value min_q range_q q = quot_z (quot_z (pos (q / 2) *ℤ range_q) (pos 2048) +ℤ min_q) (pos 2)

-- 'adds row value k times the history k + 1 back, k from 0 up': from k on
unfoldable pub fixed_sum : ℕ → List ℤ → (ℕ → ℕ) → ℕ → ℕ
fixed_sum acc [] y k = acc
fixed_sum acc (c ∷ cs) y k = fixed_sum ((acc + (low 32 c * y k) % 2 ^ 32) % 2 ^ 32) cs y (suc k)

-- 'then divides by 16384 towards zero'
unfoldable pub divided : ℕ → ℕ
divided acc = low 32 (quot_z (signed32 acc) (pos 16384))

-- 'The accumulator starts at the residual's sample (fixed: × 16384)'
unfoldable pub fixed_next : Float → Float → List ℕ → (ℕ → ℕ) → ℕ → ℕ
fixed_next least range row y x =
    divided (fixed_sum (low 32 (sample_of x *ℤ pos 16384)) (map (row_value (scaled_by 32768 least) (scaled_by 2048 range)) row) y 0)

-- 'History keeps i32; output keeps 16 bits'
unfoldable pub fixed_filter : Float → Float → Filter ℕ
fixed_filter least range = record { rest = 0; next = fixed_next least range; out = λ w. w % 2 ^ 16 }
