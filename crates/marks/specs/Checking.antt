-- What the checks of a call's marks answer, and what is asked where they are stored.
use Rattle.std.specs.Prelude.{◌≡◌, ℕ, ◌+◌, ◌-◌, ◌*◌, ◌≤◌, Bool, true, false, ◌&&◌, List, [], ◌∷◌, length, nat_le, Err, None, Ok, Option, Result, Some}
use Rattle.marks.specs.declared.Counts.{Counts}
use Rattle.refusal.specs.declared.Refusal.{Refusal}
use Rattle.sheet.specs.declared.Places.{Places}
use Rattle.sheet.specs.Sheet.{sheet_of}
use Rattle.sheet.specs.Places.{answer_in, sheet_places}
use Rattle.voice.specs.declared.DiphoneVoice.{DiphoneVoice}
use Rattle.voice.specs.Voice.{Voice, voice_of}
use Rattle.voice.specs.Periods.{samples_from}
use Rattle.voice.specs.Opening.{IsOpen}
use Rattle.units.specs.Units.{limit}
use Rattle.marks.specs.declared.Tally.{Tally}
use Rattle.marks.specs.NaturalMarks.{marks_of_periods, mark_refusal}
use Rattle.marks.specs.PitchMarks.{Made, most_marks, pitch_marks}

-- the last of some marks, or m where there is none
unfoldable pub last_of : ℕ → List ℕ → ℕ
last_of m [] = m
last_of m (n ∷ ns) = last_of n ns

-- the longest front of some marks that are not above a place
unfoldable pub up_to : ℕ → List ℕ → List ℕ
up_to end [] = []
up_to end (m ∷ ms) = elim (nat_le m end) [ false ↦ [] | true ↦ m ∷ up_to end ms ]

abbrev pub answered : Option Refusal → ℕ → ℕ → ℕ → Result Counts Refusal
answered None count taken last = Ok (record { marks = count; taken = taken; last = last })
answered (Some r) count taken last = Err r

-- the refusal, or how many marks there are, how many up to a place are taken, and the last of these, 0 where there is none
unfoldable pub checked_marks : ℕ → Made → Result Counts Refusal
checked_marks end m = answered m.refusal (length m.marks) (length (up_to end m.marks)) (last_of 0 (up_to end m.marks))

abbrev pub Bounded : Result Counts Refusal → Type 0
Bounded (Ok c) = (c.marks ≤ most_marks) × (c.taken ≤ c.marks) × (c.last ≤ limit)
Bounded (Err r) = Unit

-- ---- mark by mark

abbrev pub takes : Tally → ℕ → ℕ → Bool
takes t end m = t.taking && nat_le m end

abbrev pub tallied : Tally → ℕ → Bool → Tally
tallied t m true = record { taking = true; count = t.count + 1; taken = t.taken + 1; last = m }
tallied t m false = record { taking = false; count = t.count + 1; taken = t.taken; last = t.last }

-- the sheet was read, its marks are not refused, and `count` of them fit n bytes, four each
pub record CanStore (sheet : List ℕ) (p : Places) (rate count n : ℕ) : Type 0 where
  pub places : answer_in (sheet_places sheet) ≡ Ok p
  pub spoken : (pitch_marks rate (sheet_of sheet).targets).refusal ≡ None
  pub room : 4 * count ≤ n

-- ---- the simple join, unit by unit

abbrev pub unit_answered : Option Refusal → ℕ → ℕ → Result (ℕ × ℕ) Refusal
unit_answered None place left = Ok (place, left)
unit_answered (Some r) place left = Err r

-- n periods from p on, the first of which begins at a place, with `left` marks allowed: the refusal, or the place after them and the marks
-- still allowed
unfoldable pub unit_marks : Voice → ℕ → ℕ → ℕ → ℕ → Result (ℕ × ℕ) Refusal
unit_marks v place p n left = unit_answered (mark_refusal left (marks_of_periods v place p n)) (place + samples_from v p n) (left - n)

abbrev pub LowPlace : Result (ℕ × ℕ) Refusal → Type 0
LowPlace (Ok (place, left)) = place ≤ limit
LowPlace (Err r) = Unit

-- an open voice has the periods, none of their marks is above the limit, and they fit a buffer of n bytes from element `index` on
pub record CanStoreUnit (file : List ℕ) (d : DiphoneVoice) (place first last index n : ℕ) : Type 0 where
  pub opens : IsOpen file d
  pub within : last ≤ d.header.frames
  pub low : place + samples_from (voice_of file) first (last - first) ≤ limit
  pub room : 4 * index + 4 * (last - first) ≤ n
