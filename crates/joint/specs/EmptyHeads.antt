-- Document 02, A8: the list of 'the old answers that change', those of 'zero-size periods at the head of a later unit'.
use Rattle.std.specs.Prelude.{◌≡◌, Bool, true, false, List, [], ◌∷◌, ◌++◌, map, ℕ, zero, suc, ◌+◌, ◌≤◌, ◌<◌, eqb, length, replicate}
use Rattle.base.specs.Choice.{pick}
use Rattle.base.specs.Buffers.{flat}
use Rattle.voice.specs.Voice.{Voice}
use Rattle.voice.specs.Periods.{samples_of}
use Rattle.sheet.specs.Sheet.{Sheet}
use Rattle.units.specs.declared.Unit.{Unit}
use Rattle.marks.specs.NaturalMarks.{period_count}
use Rattle.excitation.specs.Taken.{total}
use Rattle.call.specs.declared.Settings.{Settings}
use Rattle.call.specs.Call.{plan_of, is_simple}

-- ---- as a list of yes and no, one for each period

-- of n periods from p on: it is of size zero, and so are all before it
unfoldable pub empty_head : Voice → ℕ → ℕ → List Bool
empty_head v p zero = []
empty_head v p (suc n) = elim (eqb (samples_of v p) 0) [ true ↦ true ∷ empty_head v (suc p) n | false ↦ replicate (suc n) false ]

-- of the periods of later units
unfoldable pub later_heads : Voice → List Unit → List Bool
later_heads v us = flat (λ (u : Unit). empty_head v u.first_period (period_count u)) us

-- of the periods of all units, unit after unit: none of the first unit's
unfoldable pub empty_heads : Voice → List Unit → List Bool
empty_heads v [] = []
empty_heads v (u ∷ us) = replicate (period_count u) false ++ later_heads v us

-- of the periods that the units of a call have, of which none is taken by fewer than two marks: none but 'in the simple join'
unfoldable pub changed : Voice → Sheet → Settings → List Bool
changed v s o = pick (is_simple o.join) (empty_heads v (plan_of v s o).units) []

-- ---- the same with no list

-- period i of all units' periods, from 0
pub record AtHead (v : Voice) (us : List Unit) (i : ℕ) : Type 0 where
  -- is one of 'a later unit': others stand before it
  pub before : List Unit
  pub unit : Unit
  pub after : List Unit
  pub whole : us ≡ before ++ (unit ∷ after)
  pub later : 0 < length before
  -- its period j, from 0
  pub j : ℕ
  pub place : i ≡ total (map period_count before) + j
  pub inside : j < period_count unit
  -- 'zero-size', and 'at the head': all before it are so too
  pub empty : (k : ℕ) → k ≤ j → samples_of v (unit.first_period + k) ≡ 0

-- so in a call
abbrev pub AtJoint : Voice → Sheet → Settings → ℕ → Type 0
AtJoint v s o i = (is_simple o.join ≡ true) × AtHead v (plan_of v s o).units i
