-- Lists of tests, parts of lists, and a list that begins with another.
use Rattle.std.specs.Prelude.{◌≡◌, Bool, true, ◌&&◌, List, [], ◌∷◌, ◌++◌, ℕ, take, drop, None, Option, Some}
use Rattle.base.specs.Choice.{pick}

-- every test passes
unfoldable pub every : List Bool → Bool
every [] = true
every (t ∷ ts) = t && every ts

-- the cause beside the first test that fails, if one does
unfoldable pub first_failing : {C : Type 0} → List (Bool × C) → Option C
first_failing [] = None
first_failing (c ∷ cs) = pick c.0 (first_failing cs) (Some c.1)

-- the first of two causes, if there is one
abbrev pub or_next : {C : Type 0} → Option C → Option C → Option C
or_next None d = d
or_next (Some c) d = Some c

-- the n elements from place `at` on
abbrev pub part : {A : Type 0} → List A → ℕ → ℕ → List A
part s at n = take n (drop at s)

-- t begins with all of s
pub record Heads {A : Type 0} (s t : List A) : Type 0 where
  pub more : List A
  pub whole : t ≡ s ++ more
