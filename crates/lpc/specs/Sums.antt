-- Inner: The sum over a row, as code makes it.
use Rattle.std.specs.Prelude.{List, [], ◌∷◌, ℕ, suc, ◌+◌, ◌*◌, ◌%◌, ◌^◌, Float}
use Rattle.std.specs.Float.{binary32}
use Rattle.std.specs.Float.Ieee.{add, mul}

-- value k and the history k + 1 back go into the accumulator, k from 0 up: from k on
unfoldable pub summed : {A : Type 0} → (A → A → A → A) → A → List A → (ℕ → A) → ℕ → A
summed step acc [] y k = acc
summed step acc (c ∷ cs) y k = summed step (step acc c (y k)) cs y (suc k)

-- one step of the fixed filter, on words, and of the float filter
abbrev pub fixed_step : ℕ → ℕ → ℕ → ℕ
fixed_step acc c y = (acc + (c * y) % 2 ^ 32) % 2 ^ 32

abbrev pub float_step : Float → Float → Float → Float
float_step acc c y = add binary32 acc (mul binary32 c y)
