-- Inner: What is asked of a call whose buffers are filled, and what is left in them.
use Rattle.std.specs.Prelude.{◌≡◌, Bool, true, List, ℕ, ◌+◌, ◌*◌, ◌≤◌, ◌<◌, length, take, None, Ok}
use Rattle.std.proofs.lemmas.List.Edits.{sets}
use Rattle.base.specs.Choice.{pick}
use Rattle.base.specs.Buffers.{flat}
use Rattle.base.specs.Bytes.{bytes_of, elements}
use Rattle.voice.specs.declared.DiphoneVoice.{DiphoneVoice}
use Rattle.voice.specs.Voice.{Voice, voice_of}
use Rattle.voice.specs.Periods.{decode_room}
use Rattle.voice.specs.Opening.{IsOpen}
use Rattle.sheet.specs.declared.Places.{Places}
use Rattle.sheet.specs.Sheet.{sheet_of}
use Rattle.sheet.specs.Places.{answer_in, sheet_places}
use Rattle.units.specs.declared.Selection.{Selection}
use Rattle.units.specs.declared.Unit.{Unit}
use Rattle.units.specs.Asked.{Searchable}
use Rattle.units.specs.Selecting.{folded}
use Rattle.units.specs.Units.{ending_at, units_of, end_refusal}
use Rattle.marks.specs.NaturalMarks.{place_after_unit, natural_units}
use Rattle.marks.specs.Rising.{Rising}
use Rattle.excitation.specs.Shares.{shares_from}
use Rattle.excitation.specs.Taken.{Period, periods_of_share, taken, sizes_of, rows_of, excitation_of, decoded_over}
use Rattle.call.specs.declared.JoinType.{JoinType}
use Rattle.call.specs.declared.Settings.{Settings}
use Rattle.call.specs.declared.Need.{Need}
use Rattle.call.specs.Call.{Plan, plan_by, plan_of, is_simple}
use Rattle.call.specs.Buffers.{Buffers, need_of, holds, lengths_of}

-- the units that are selected from the sheet
abbrev pub selected : List ℕ → List ℕ → Selection → List Unit
selected file sheet by = units_of (voice_of file) (folded by.fold (sheet_of sheet).segments)

-- the plan of a join, of a sheet with two segments or more
abbrev pub planned : JoinType → List ℕ → List ℕ → Selection → Plan
planned join file sheet by = plan_by join (voice_of file) (folded by.fold (sheet_of sheet).segments) (sheet_of sheet).targets

-- an open voice, its sorted index, and a sheet that was read
pub record CanSelect (file index sheet : List ℕ) (by : Selection) : Type 0 where
  pub searchable : Searchable file index by
  pub places : answer_in (sheet_places sheet) ≡ Ok by.places

-- two segments or more, marks that are not refused, and room for `count` of them in n bytes; in the simple join these are all
pub record CanStoreMarks (join : JoinType) (file index sheet : List ℕ) (by : Selection) (count n : ℕ) : Type 0 where
  pub selects : CanSelect file index sheet by
  pub two : 2 ≤ by.places.segments.count
  pub spoken : (planned join file sheet by).refusal ≡ None
  pub whole : is_simple join ≡ true → length (planned join file sheet by).marks ≤ count
  pub room : 4 * count ≤ n

-- the same for all of them
pub record CanMark (join : JoinType) (file index sheet : List ℕ) (by : Selection) (n : ℕ) : Type 0 where
  pub selects : CanSelect file index sheet by
  pub two : 2 ≤ by.places.segments.count
  pub spoken : (planned join file sheet by).refusal ≡ None
  pub room : 4 * length (planned join file sheet by).marks ≤ n

-- ---- the periods of the units

-- 'The simple join sums period samples and ignores ends and targets': a unit that begins at a place then ends where it naturally does
abbrev pub join_unit : Bool → Voice → ℕ → Unit → Unit
join_unit natural v place u = ending_at u (pick natural (place_after_unit v place u) u.target_end)

abbrev pub join_units : Bool → Voice → ℕ → List Unit → List Unit
join_units natural v place us = pick natural (natural_units v place us) us

-- the buffers that the taken periods fill
pub record PeriodBuffers : Type 0 where
  pub sizes : List ℕ
  pub rows : List ℕ
  pub excitation : List ℕ
  pub decoded : List ℕ

abbrev pub lent_periods : List ℕ → List ℕ → List ℕ → List ℕ → PeriodBuffers
lent_periods sizes rows excitation decoded = record { sizes = sizes; rows = rows; excitation = excitation; decoded = decoded }

-- what periods leave in them, `taken` periods after the first and from a mark on
unfoldable pub fill_periods : Voice → ℕ → ℕ → List Period → PeriodBuffers → PeriodBuffers
fill_periods v taken mark ps b =
    record {
      sizes = sets b.sizes (4 * taken) (flat (bytes_of 4) (sizes_of ps));
      rows = sets b.rows (2 * (v.header.order * taken)) (flat (bytes_of 2) (rows_of ps));
      excitation = sets b.excitation mark (excitation_of ps);
      decoded = decoded_over v b.decoded ps;
    }

-- they have room for that
pub record HasRoom (v : Voice) (taken mark : ℕ) (ps : List Period) (b : PeriodBuffers) : Type 0 where
  pub sizes : 4 * (taken + length ps) ≤ length b.sizes
  pub rows : 2 * (v.header.order * (taken + length ps)) ≤ length b.rows
  pub excitation : mark + length (excitation_of ps) ≤ length b.excitation
  pub decoded : decode_room v ≤ length b.decoded

-- the periods that units take of some marks, after a target end and a mark
abbrev pub taken_from : Bool → Voice → ℕ → ℕ → List Unit → List ℕ → List Period
taken_from natural v end mark us ms = flat (periods_of_share v) (shares_from natural end mark us ms)

-- those that the units take of the stored marks
abbrev pub units_take : Bool → List ℕ → List ℕ → Selection → List ℕ → List Period
units_take natural file sheet by marks =
    taken_from natural (voice_of file) 0 0 (join_units natural (voice_of file) 0 (selected file sheet by)) (elements 4 marks)

-- there are units, no target end is above the limit, the stored marks do not fall, and there is room for the periods
pub record CanTakeUnits (natural : Bool) (file index sheet : List ℕ) (by : Selection) (marks : List ℕ) (b : PeriodBuffers) : Type 0 where
  pub selects : CanSelect file index sheet by
  pub some : 0 < by.places.segments.count
  pub low : end_refusal (join_units natural (voice_of file) 0 (selected file sheet by)) ≡ None
  pub rising : Rising 0 (elements 4 marks)
  pub room : HasRoom (voice_of file) 0 0 (units_take natural file sheet by marks) b

-- ---- the periods of a join

abbrev pub join_takes : JoinType → List ℕ → List ℕ → Selection → List Period
join_takes join file sheet by = taken (is_simple join) (voice_of file) (planned join file sheet by).units (planned join file sheet by).marks

-- the marks are stored, `count` of them, and there is room for the periods
pub record CanTakePeriods (join : JoinType) (file index sheet : List ℕ) (by : Selection) (count : ℕ) (marks : List ℕ) (b : PeriodBuffers) : Type 0 where
  pub selects : CanSelect file index sheet by
  pub two : 2 ≤ by.places.segments.count
  pub spoken : (planned join file sheet by).refusal ≡ None
  pub counted : count ≡ length (planned join file sheet by).marks
  pub stored : take (4 * count) marks ≡ flat (bytes_of 4) (planned join file sheet by).marks
  pub room : HasRoom (voice_of file) 0 0 (join_takes join file sheet by) b

-- there is room for the marks and for the periods
pub record CanJoin (join : JoinType) (file index sheet : List ℕ) (by : Selection) (count : ℕ) (marks : ℕ) (b : PeriodBuffers) : Type 0 where
  pub marked : CanMark join file index sheet by marks
  pub counted : count ≡ length (planned join file sheet by).marks
  pub room : HasRoom (voice_of file) 0 0 (join_takes join file sheet by) b

-- ---- all buffers of a call

-- the voice opens, the sheet was read, nothing refuses their call, and each buffer has what it needs
pub record CanFill (file sheet : List ℕ) (o : Settings) (d : DiphoneVoice) (p : Places) (n : Need) (b : Buffers) : Type 0 where
  pub opened : IsOpen file d
  pub places : answer_in (sheet_places sheet) ≡ Ok p
  pub passed : (plan_of (voice_of file) (sheet_of sheet) o).refusal ≡ None
  pub need : n ≡ need_of (voice_of file) (sheet_of sheet) o
  pub room : holds n (lengths_of b) ≡ true
