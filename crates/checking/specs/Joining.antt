-- Inner: What the check of a join's units and marks asks and finds.
use Rattle.std.specs.Prelude.{◌≡◌, List, ℕ, ◌*◌, ◌≤◌, ltb, length, Err, None, Ok, Result, Some}
use Rattle.refusal.specs.declared.Refusal.{Refusal}
use Rattle.base.specs.Choice.{pick}
use Rattle.voice.specs.Voice.{Voice}
use Rattle.voice.specs.Periods.{decode_room}
use Rattle.sheet.specs.Places.{answer_in, sheet_places}
use Rattle.units.specs.declared.Selection.{Selection}
use Rattle.units.specs.Asked.{Searchable}
use Rattle.units.specs.Units.{limit, greatest_end}
use Rattle.marks.specs.PitchMarks.{most_marks}
use Rattle.marks.specs.Checking.{last_of, up_to}
use Rattle.call.specs.declared.Need.{Need}
use Rattle.call.specs.declared.Settings.{Settings}
use Rattle.call.specs.Call.{Plan}
use Rattle.marks.specs.declared.Counts.{Counts}

-- an open voice, an index buffer and a sheet that was read, in which names are looked up, folded as the settings say
pub record Asks (file index sheet : List ℕ) (by : Selection) (o : Settings) : Type 0 where
  pub searchable : Searchable file index by
  pub read : answer_in (sheet_places sheet) ≡ Ok by.places
  pub fold : by.fold ≡ o.fold

-- there are the marks ms, and those in front of them are not above the greatest target end
pub record Counted (ms front : List ℕ) (c : Counts) : Type 0 where
  pub marks : c.marks ≡ length ms
  pub taken : c.taken ≡ length front
  pub last : c.last ≡ last_of 0 front
  pub few : c.marks ≤ most_marks
  pub fewer : c.taken ≤ c.marks
  pub low : c.last ≤ limit

-- the refusal of a plan, or its marks
abbrev pub Joins : Plan → Result Counts Refusal → Type 0
Joins p (Err r) = p.refusal ≡ Some r
Joins p (Ok c) = (p.refusal ≡ None) × Counted p.marks (up_to (greatest_end p.units) p.marks) c

-- what the buffers need: 'Fewer than two marks give zero periods'
unfoldable pub need_by : Voice → Counts → Need
need_by v c =
    let few = ltb c.marks 2 in
    record {
      entries = length v.entries;
      marks = c.marks;
      periods = pick few 0 c.taken;
      rows = v.header.order * pick few 0 c.taken;
      excitation = pick few 0 c.last;
      decoded = decode_room v;
    }
