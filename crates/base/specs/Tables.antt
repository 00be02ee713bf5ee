-- Inner: A test over a whole table, and over the first numbers.
use Rattle.std.specs.Prelude.{Bool, true, false, List, [], ◌∷◌, ℕ, zero, suc}
use Rattle.base.specs.Choice.{pick}

-- the test passes at each entry and its place, counted from i
abbrev pub passes : (ℕ → ℕ → Bool) → ℕ → List ℕ → Bool
passes test i [] = true
passes test i (x ∷ xs) = pick (test i x) (passes test (suc i) xs) false

-- the test passes at the n numbers from i on
abbrev pub passes_from : (ℕ → Bool) → ℕ → ℕ → Bool
passes_from test i zero = true
passes_from test i (suc n) = pick (test i) (passes_from test (suc i) n) false
