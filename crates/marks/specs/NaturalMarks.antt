-- Document 01: 'The simple join sums period samples and ignores ends and targets, so only its marks can give 11.'
use Rattle.std.specs.Prelude.{ℕ, zero, suc, ◌+◌, ◌-◌, List, [], ◌∷◌, ◌++◌, nat_le, None, Option, Some}
use Rattle.base.specs.Choice.{pick}
use Rattle.refusal.specs.declared.Refusal.{Refusal}
use Rattle.refusal.specs.declared.Refusal.TheVariants.{PastLimit, TooManyMarks}
use Rattle.voice.specs.Voice.{Voice}
use Rattle.voice.specs.Periods.{samples_of, samples_from}
use Rattle.units.specs.declared.Unit.{Unit}
use Rattle.units.specs.Units.{limit, ending_at}

-- a unit's number of periods
abbrev pub period_count : Unit → ℕ
period_count u = u.last_period - u.first_period

-- a mark after each of n periods from p on, the first of which begins at a place
unfoldable pub marks_of_periods : Voice → ℕ → ℕ → ℕ → List ℕ
marks_of_periods v place p zero = []
marks_of_periods v place p (suc n) = (place + samples_of v p) ∷ marks_of_periods v (place + samples_of v p) (suc p) n

-- where a unit that begins at a place ends
abbrev pub place_after_unit : Voice → ℕ → Unit → ℕ
place_after_unit v place u = place + samples_from v u.first_period (period_count u)

unfoldable pub natural_marks : Voice → ℕ → List Unit → List ℕ
natural_marks v place [] = []
natural_marks v place (u ∷ us) = marks_of_periods v place u.first_period (period_count u) ++ natural_marks v (place_after_unit v place u) us

-- the units, each with its target end where it naturally ends
unfoldable pub natural_units : Voice → ℕ → List Unit → List Unit
natural_units v place [] = []
natural_units v place (u ∷ us) = ending_at u (place_after_unit v place u) ∷ natural_units v (place_after_unit v place u) us

-- mark by mark: 12 where it is one too many, then 11 where it is above the limit; `left` marks are allowed
unfoldable pub mark_refusal : ℕ → List ℕ → Option Refusal
mark_refusal left [] = None
mark_refusal zero (m ∷ ms) = Some TooManyMarks
mark_refusal (suc n) (m ∷ ms) = pick (nat_le m limit) (mark_refusal n ms) (Some PastLimit)
