-- Two periods from a fresh state.
use Rattle.std.specs.Prelude.{◌≡◌, Bool, false, List, ◌++◌, ℕ, ◌-◌, ◌*◌, ◌/◌, ◌≤◌, eqb, leb, Float as Float32, length, take}
use Rattle.base.specs.Choice.{pick}
use Rattle.base.specs.Lists.{part}
use Rattle.lpc.specs.declared.ResynthType.{ResynthType}
use Rattle.lpc.specs.declared.ResynthType.TheVariants.{Fixed, Float}
use Rattle.lpc.specs.declared.FilterState.{FilterState}
use Rattle.lpc.specs.Filter.{Part}
use Rattle.lpc.specs.Ready.{part_of}
use Rattle.lpc.specs.State.{fresh_state, advanced, spoken}

-- 0 is the fixed filter, any other number the float filter
abbrev pub filter_of : ℕ → ResynthType
filter_of n = pick (eqb n 0) Fixed Float

-- the periods have a row each; the first has the first n bytes of the excitation, the second the others
abbrev pub first_of : ℕ → List ℕ → List ℕ → ℕ → Part
first_of order rows e n = part_of (take (2 * order) rows) (take n e)

abbrev pub second_of : ℕ → List ℕ → List ℕ → ℕ → Part
second_of order rows e n = part_of (part rows (2 * order) (length rows - 2 * order)) (part e n (length e - n))

unfoldable pub two_spoken : FilterState → Part → Part → List ℕ
two_spoken s p q = spoken s p ++ spoken (advanced s p) q

abbrev pub two_periods : ℕ → ℕ → Float32 → Float32 → List ℕ → ℕ → List ℕ → List ℕ
two_periods filter order least range rows n e =
    two_spoken (fresh_state (filter_of filter) order least range) (first_of order rows e n) (second_of order rows e n)

-- what is lent fits: a row for each period, and room for every sample
abbrev pub fits : ℕ → List ℕ → ℕ → List ℕ → List ℕ → Bool
fits order rows n e d =
    pick (leb order 32) (pick (eqb (length rows) (4 * order)) (pick (leb n (length e)) (leb (length e) (length d / 2)) false) false) false

pub record Lent (order : ℕ) (rows : List ℕ) (n : ℕ) (e d : List ℕ) : Type 0 where
  pub low : order ≤ 32
  pub whole : length rows ≡ 4 * order
  pub within : n ≤ length e
  pub room : 2 * length e ≤ length d
