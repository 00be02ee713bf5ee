-- Document 01, 'Selecting and marking': halves and target ends; document 02, A9: target ends to the nearest sample.
use Rattle.std.specs.Prelude.{List, [], ◌∷◌, ◌++◌, false, ℕ, suc, ◌+◌, ◌≤◌, max, leb, pos, Float, Err, None, Ok, Option, Result, Some}
use Rattle.std.specs.Float.{fin, binary32}
use Rattle.std.specs.Float.Ieee.{add, mul, div, of_int}
use Rattle.base.specs.Choice.{pick}
use Rattle.float.specs.Nearest.{to_nearest}
use Rattle.refusal.specs.declared.Refusal.{Refusal}
use Rattle.refusal.specs.declared.Refusal.TheVariants.{PastLimit}
use Rattle.voice.specs.Voice.{Entry, Voice}
use Rattle.index.specs.declared.EntryPeriods.{EntryPeriods}
use Rattle.index.specs.Index.{periods_of}
use Rattle.sheet.specs.Sheet.{SegmentRead, as_f32}
use Rattle.units.specs.declared.Unit.{Unit}
use Rattle.units.specs.declared.UnitPair.{UnitPair}
use Rattle.units.specs.declared.TargetEnds.{TargetEnds}
use Rattle.units.specs.Selecting.{entry_of}

-- a time in seconds × rate, in f32
abbrev pub product_of : ℕ → Float → Float
product_of rate time = mul binary32 time (of_int binary32 (pos rate))

-- 'rounds a phone's end to the nearest sample, an exact half going up'; 'below zero is still 0'
unfoldable pub samples_at : ℕ → Float → ℕ
samples_at rate time = to_nearest 64 (product_of rate time)

-- '(left + right) / 2', in f32 (`fin false 1 (pos 1)` is 2)
unfoldable pub midway : Float → Float → Float
midway left right = div binary32 (add binary32 left right) (fin false 1 (pos 1))

-- 'Target ends, in f32: left end × rate, and (left + right) / 2 × rate'
abbrev pub ends_of : ℕ → Float → Float → TargetEnds
ends_of rate left right = record { first = samples_at rate left; second = samples_at rate (midway left right) }

-- 'Halves are start to middle, middle to end'; 'each unit must carry its pair's number, from 1, and which half it is, 1 or 2'
abbrev pub pair_of : ℕ → EntryPeriods → TargetEnds → UnitPair
pair_of pair e ends =
    let middle = e.start + e.first in
    record {
      first = record { first_period = e.start; last_period = middle; target_end = ends.first; pair = pair; half = 1 };
      second = record { first_period = middle; last_period = middle + e.second; target_end = ends.second; pair = pair; half = 2 };
    }

abbrev pub listed : UnitPair → List Unit
listed p = p.first ∷ p.second ∷ []

unfoldable pub units_of_pair : ℕ → ℕ → Entry → Float → Float → List Unit
units_of_pair pair rate e left right = listed (pair_of pair (periods_of e) (ends_of rate left right))

-- a unit with another target end
abbrev pub ending_at : Unit → ℕ → Unit
ending_at u end = record { first_period = u.first_period; last_period = u.last_period; target_end = end; pair = u.pair; half = u.half }

-- a unit's periods are among so many, and at most 255: 'two halves u8'
pub record Inside (frames : ℕ) (u : Unit) : Type 0 where
  pub rising : u.first_period ≤ u.last_period
  pub within : u.last_period ≤ frames
  pub short : u.last_period ≤ u.first_period + 255

-- the pair of `left` and the first of the segments after it, by its number, and so on; ss has all segments, to which followers refer
unfoldable pub units_from : Voice → List SegmentRead → ℕ → SegmentRead → List SegmentRead → List Unit
units_from v ss pair left [] = []
units_from v ss pair left (right ∷ rs) =
    units_of_pair pair v.header.rate (entry_of v ss left right) (as_f32 left.end) (as_f32 right.end) ++ units_from v ss (suc pair) right rs

unfoldable pub units_all : Voice → List SegmentRead → List SegmentRead → List Unit
units_all v ss [] = []
units_all v ss (s ∷ rs) = units_from v ss 1 s rs

-- the units of segments that are folded already
abbrev pub units_of : Voice → List SegmentRead → List Unit
units_of v ss = units_all v ss ss

-- the greatest mark or target end that a call has
abbrev pub limit : ℕ
limit = 16777215

-- 11 at the first target end above the limit, in unit order
unfoldable pub end_refusal : List Unit → Option Refusal
end_refusal [] = None
end_refusal (u ∷ us) = pick (leb u.target_end limit) (end_refusal us) (Some PastLimit)

-- the greatest target end, 0 where there is no unit
unfoldable pub greatest_end : List Unit → ℕ
greatest_end [] = 0
greatest_end (u ∷ us) = max u.target_end (greatest_end us)

abbrev pub answered_ends : Option Refusal → ℕ → Result ℕ Refusal
answered_ends None greatest = Ok greatest
answered_ends (Some r) greatest = Err r

-- the refusal, or the greatest target end
unfoldable pub checked_ends : List Unit → Result ℕ Refusal
checked_ends us = answered_ends (end_refusal us) (greatest_end us)

abbrev pub greatest_in : Result ℕ Refusal → ℕ
greatest_in (Ok greatest) = greatest
greatest_in (Err r) = 0
