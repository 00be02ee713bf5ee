-- Inner: What a pull has tested before it gives a period.
use Rattle.std.specs.Prelude.{◌≡◌, List, ℕ, ◌+◌, ◌*◌, ◌^◌, ◌≤◌, ◌<◌, length}
use Rattle.base.specs.Bytes.{elements}
use Rattle.lpc.specs.declared.FilterState.{FilterState}
use Rattle.lpc.specs.Filter.{Part}

-- a period, from its row and its excitation as bytes
abbrev pub part_of : List ℕ → List ℕ → Part
part_of row excitation = record { row = elements 2 row; bytes = excitation }

-- the state s can take its next period, with its row and its excitation as bytes, and the lent buffer d
pub record Ready (s : FilterState) (row excitation d : List ℕ) : Type 0 where
  pub order_low : s.order ≤ 32
  pub place_low : s.ring_place ≤ s.order
  pub whole : length row ≡ 2 * s.order
  pub room : 2 * length excitation ≤ length d
  pub period_low : s.period + 1 < 2 ^ 64
  pub sample_low : s.sample_place + length excitation < 2 ^ 64
