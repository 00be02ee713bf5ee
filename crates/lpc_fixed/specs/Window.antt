-- Inner: The ring kept twice, one copy after the other.
use Rattle.std.specs.Prelude.{◌≡◌, ℕ, ◌+◌, ◌<◌, List, slice_index}

-- of a ring of order + 1 places, each of the first n stands in the window at its place, and order + 1 after that
pub record Doubled (order n : ℕ) (history window : List ℕ) : Type 0 where
  pub lower : (i : ℕ) → i < n → slice_index window i ≡ slice_index history i
  pub upper : (i : ℕ) → i < n → slice_index window (i + order + 1) ≡ slice_index history i
