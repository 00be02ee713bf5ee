-- Inner: A walk over the adjacent pairs of a sheet's segments.
use Rattle.std.specs.Prelude.{◌≡◌, Bool, true, List, [], ◌∷◌, ◌++◌, ◌⊎◌, ℕ, ◌+◌, ◌-◌, ◌*◌, ◌<◌, drop, get_or, is_some, None, Option, Some}
use Rattle.base.specs.Choice.{pick}
use Rattle.voice.specs.declared.DiphoneVoice.{DiphoneVoice}
use Rattle.voice.specs.Voice.{Voice, voice_of}
use Rattle.sheet.specs.Sheet.{SegmentRead, Got, fails, gets, segment, repeated, sheet_of}
use Rattle.sheet.specs.Answers.{segment_read}
use Rattle.sheet.specs.Places.{is_read}
use Rattle.units.specs.declared.Unit.{Unit}
use Rattle.units.specs.declared.PairWalk.{PairWalk}
use Rattle.units.specs.declared.PairStep.{PairStep}
use Rattle.units.specs.declared.UnitWalk.{UnitWalk}
use Rattle.units.specs.declared.UnitStep.{UnitStep}
use Rattle.units.specs.Asked.{Named}
use Rattle.units.specs.Selecting.{folded_segment, folded}
use Rattle.units.specs.Units.{listed, Inside, units_from, units_of}

abbrev pub list_in : {A : Type 0} → Got (List A) → List A
list_in (fails r) = []
list_in (gets xs bs) = xs

-- so many segments from a place on, of a sheet that has `count`
abbrev pub segments_at : List ℕ → ℕ → ℕ → ℕ → Got (List SegmentRead)
segments_at sheet count n at = repeated (segment count) n (drop at sheet)

-- the segments that are still to come
abbrev pub coming : List ℕ → ℕ → PairWalk → List SegmentRead
coming sheet count w = list_in (segments_at sheet count w.remaining w.next)

-- the reading of the sheet reached them
pub record Reached (sheet : List ℕ) (count : ℕ) (w : PairWalk) : Type 0 where
  pub named : Named sheet w.left
  pub ahead : is_read (segments_at sheet count w.remaining w.next) ≡ true

-- they are the last of the sheet's
pub record Walking (sheet : List ℕ) (count : ℕ) (w : PairWalk) : Type 0 where
  pub reached : Reached sheet count w
  pub fewer : w.remaining < count
  pub placed : drop (count - (w.remaining + 1)) (sheet_of sheet).segments ≡ segment_read sheet w.left ∷ coming sheet count w

-- the segments from a number on, the first of which has 0, are ahead of a place
pub record Starts (sheet : List ℕ) (count number at : ℕ) : Type 0 where
  pub ahead : is_read (segments_at sheet count (count - number) at) ≡ true
  pub list : list_in (segments_at sheet count (count - number) at) ≡ drop number (sheet_of sheet).segments

-- the places of every 16th segment; one that is 0 is not kept
pub record Sampled (sheet : List ℕ) (count : ℕ) (sampled : List ℕ) : Type 0 where
  pub starts : (j : ℕ) → 0 < get_or sampled j 0 → Starts sheet count (16 * j) (get_or sampled j 0)

-- a place was stored for a segment with a number from 0, or none was
pub record Kept (number at : ℕ) (old new : List ℕ) : Type 0 where
  pub each : (j : ℕ) → (get_or new j 0 ≡ get_or old j 0) ⊎ ((16 * j ≡ number) × (get_or new j 0 ≡ at))

-- the units that are still to come; the number of the next pair is that of its left segment
abbrev pub units_coming : Voice → Bool → List ℕ → ℕ → PairWalk → List Unit
units_coming v fold sheet count w =
    units_from v (folded fold (sheet_of sheet).segments) (count - w.remaining) (folded_segment fold (segment_read sheet w.left))
    (folded fold (coming sheet count w))

-- a step over a pair yields its units, which are the first of those still to come
pub record StepsPair (file : List ℕ) (d : DiphoneVoice) (fold : Bool) (sheet : List ℕ) (count : ℕ) (w : PairWalk) (r : PairStep) : Type 0 where
  pub units : units_coming (voice_of file) fold sheet count w ≡ listed r.units ++ units_coming (voice_of file) fold sheet count r.walk
  pub walking : Walking sheet count r.walk
  pub fewer : r.walk.remaining + 1 ≡ w.remaining
  pub first : Inside d.header.frames r.units.first
  pub second : Inside d.header.frames r.units.second

-- ---- unit after unit

abbrev pub with_second : Option Unit → List Unit → List Unit
with_second (Some u) us = u ∷ us
with_second None us = us

abbrev pub units_left : Voice → Bool → List ℕ → ℕ → UnitWalk → List Unit
units_left v fold sheet count w = with_second w.second (units_coming v fold sheet count w.pairs)

-- how many they are
abbrev pub many_left : UnitWalk → ℕ
many_left w = pick (is_some w.second) 1 0 + 2 * w.pairs.remaining

pub record UnitWalking (frames : ℕ) (sheet : List ℕ) (count : ℕ) (w : UnitWalk) : Type 0 where
  pub pairs : Walking sheet count w.pairs
  pub second : (u : Unit) → w.second ≡ Some u → Inside frames u

-- a walk from the first unit on has them all before it
pub record StartsUnits (sheet : List ℕ) (count : ℕ) (w : UnitWalk) : Type 0 where
  pub units : (v : Voice) (fold : Bool) → units_of v (folded fold (sheet_of sheet).segments) ≡ units_left v fold sheet count w
  pub walking : (frames : ℕ) → UnitWalking frames sheet count w
  pub many : many_left w + 2 ≡ 2 * count

-- a step yields the first of them
pub record StepsUnit (file : List ℕ) (d : DiphoneVoice) (fold : Bool) (sheet : List ℕ) (count : ℕ) (w : UnitWalk) (r : UnitStep) : Type 0 where
  pub units : units_left (voice_of file) fold sheet count w ≡ r.unit ∷ units_left (voice_of file) fold sheet count r.walk
  pub walking : UnitWalking d.header.frames sheet count r.walk
  pub fewer : many_left r.walk + 1 ≡ many_left w
  pub inside : Inside d.header.frames r.unit
