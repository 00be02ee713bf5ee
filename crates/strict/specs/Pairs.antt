-- The pairs of a sheet, one that lacks a name in a voice, and one that has one.
use Rattle.std.specs.Prelude.{◌≡◌, List, ◌∷◌, ◌⊎◌, ℕ}
use Rattle.voice.specs.Voice.{Entry, Voice}
use Rattle.voice.specs.Extends.{Stands}
use Rattle.sheet.specs.Sheet.{SegmentRead}
use Rattle.units.specs.Selecting.{plain_name, first_tried, entry_of}

-- an adjacent pair of some segments
pub data Adjacent (left right : SegmentRead) : List SegmentRead → Type 0 where
  here : {rs : List SegmentRead} → Adjacent left right (left ∷ right ∷ rs)
  there : {s t : SegmentRead} {rs : List SegmentRead} → Adjacent left right (t ∷ rs) → Adjacent left right (s ∷ t ∷ rs)

-- no entry of the voice has a name
abbrev pub NoEntry : Voice → List ℕ → Type 0
NoEntry v n = (e : Entry) → Stands e v.entries → e.name ≡ n → ⊥

-- 'some pair finds no name that it tries before the sorted first entry'; ss has all segments, folded already
pub record Lacks (v : Voice) (ss : List SegmentRead) : Type 0 where
  pub left : SegmentRead
  pub right : SegmentRead
  pub adjacent : Adjacent left right ss
  pub not_first : NoEntry v (first_tried ss left right)
  pub not_plain : NoEntry v (plain_name left.name right.name)

-- the pair is spoken by an entry of a name that it tries
pub record ByName (v : Voice) (ss : List SegmentRead) (left right : SegmentRead) : Type 0 where
  pub entry : Entry
  pub selected : entry_of v ss left right ≡ entry
  pub stands : Stands entry v.entries
  pub named : (entry.name ≡ first_tried ss left right) ⊎ (entry.name ≡ plain_name left.name right.name)
