-- Inner: Marks that do not fall: a taken size, a mark less the one before it, loses nothing.
use Rattle.std.specs.Prelude.{ℕ, ◌≤◌, List, [], ◌∷◌}

-- the first is at least m, each other at least the one before it
abbrev pub Rising : ℕ → List ℕ → Type 0
Rising m [] = Unit
Rising m (n ∷ ns) = (m ≤ n) × Rising n ns
