-- Inner: The next period of a pull, by the bytes lent.
use Rattle.std.specs.Prelude.{List, ℕ, ◌+◌, ◌*◌, ◌^◌, ◌≤◌, ◌<◌}
use Rattle.base.specs.Lists.{part}
use Rattle.lpc.specs.declared.FilterState.{FilterState}
use Rattle.lpc.specs.Filter.{Part}
use Rattle.lpc.specs.Ready.{part_of}

-- the state s can take a period of n samples: lent are rows, excitation and a slice of so many bytes
pub record Takes (s : FilterState) (n rows excitation room : ℕ) : Type 0 where
  pub order_low : s.order ≤ 32
  pub place_low : s.ring_place ≤ s.order
  pub period_low : s.period + 1 < 2 ^ 64
  pub row_there : 2 * (s.period * s.order) + 2 * s.order ≤ rows
  pub bytes_there : s.sample_place + n ≤ excitation
  pub room_there : 2 * n ≤ room

-- the next period, of n samples: its row and its part of the excitation
unfoldable pub next_of : FilterState → ℕ → List ℕ → List ℕ → Part
next_of s n rows excitation = part_of (part rows (2 * (s.period * s.order)) (2 * s.order)) (part excitation s.sample_place n)
