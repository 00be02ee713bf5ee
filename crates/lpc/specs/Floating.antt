-- Document 01, 'Filters': the float filter.
use Rattle.std.specs.Prelude.{false, List, [], ◌∷◌, map, ℕ, suc, pos, Float}
use Rattle.std.specs.Float.{fin, binary32, binary64}
use Rattle.std.specs.Float.Ieee.{add, mul, div, of_int, to_signed}
use Rattle.base.specs.Words.{low}
use Rattle.float.specs.Casts.{narrow}
use Rattle.ulaw.specs.Ulaw.{sample_of}
use Rattle.lpc.specs.Filter.{Filter}

-- 'a row value is q / 65535 × coeff_range in f64, rounded to f32, plus coeff_min in f32'
unfoldable pub float_value : Float → Float → ℕ → Float
float_value least range q =
    add binary32 (narrow (mul binary64 (div binary64 (of_int binary64 (pos q)) (fin false 65535 (pos 0))) range)) least

-- 'adds row value k times the history k + 1 back, k from 0 up; .. one f32 rounding per step': the product is rounded, then the sum; from k
-- on
unfoldable pub float_sum : Float → List Float → (ℕ → Float) → ℕ → Float
float_sum acc [] y k = acc
float_sum acc (c ∷ cs) y k = float_sum (add binary32 acc (mul binary32 c (y k))) cs y (suc k)

-- 'The accumulator starts at the residual's sample'
unfoldable pub float_next : Float → Float → List ℕ → (ℕ → Float) → ℕ → Float
float_next least range row y x = float_sum (of_int binary32 (sample_of x)) (map (float_value least range) row) y 0

-- 'output truncates, saturates, and NaN gives 0'
unfoldable pub float_filter : Float → Float → Filter Float
float_filter least range = record { rest = fin false 0 (pos 0); next = float_next least range; out = λ a. low 16 (to_signed 15 a) }
