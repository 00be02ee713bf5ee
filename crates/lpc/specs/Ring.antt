-- The history as code keeps it: the last outputs in a ring of order + 1 places.
use Rattle.std.specs.Prelude.{List, [], ◌∷◌, ℕ, zero, suc, ◌+◌, ◌-◌, eqb, get_or, set}
use Rattle.base.specs.Choice.{pick}
use Rattle.lpc.specs.Filter.{Filter}

-- `place` is the one written next
pub record Ring (A : Type 0) : Type 0 where
  pub history : List A
  pub place : ℕ

-- the place before, and after, a place
abbrev pub place_before : ℕ → ℕ → ℕ
place_before order at = pick (eqb at 0) order (at - 1)

abbrev pub place_after : ℕ → ℕ → ℕ
place_after order at = pick (eqb at order) 0 (at + 1)

-- the place of the output k + 1 back
unfoldable pub tap : ℕ → ℕ → ℕ → ℕ
tap order at zero = place_before order at
tap order at (suc k) = place_before order (tap order at k)

module _ {A : Type 0} (f : Filter A) (order : ℕ) where
  -- the output k + 1 back
  abbrev pub ago : Ring A → ℕ → A
  ago r k = get_or r.history (tap order r.place k) f.rest

  -- the ring with one output more
  abbrev pub pushed : Ring A → A → Ring A
  pushed r y = record { history = set r.history r.place y; place = place_after order r.place }

  -- the ring after some bytes of the excitation, and their samples
  unfoldable pub ring_after : List ℕ → Ring A → List ℕ → Ring A
  ring_after row r [] = r
  ring_after row r (x ∷ xs) = ring_after row (pushed r (f.next row (ago r) x)) xs

  unfoldable pub ring_samples : List ℕ → Ring A → List ℕ → List ℕ
  ring_samples row r [] = []
  ring_samples row r (x ∷ xs) = f.out (f.next row (ago r) x) ∷ ring_samples row (pushed r (f.next row (ago r) x)) xs
