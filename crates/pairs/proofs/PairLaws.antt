-- A walk over the pairs: what is found so far decides with what is still to come.
use Rattle.std.specs.Prelude.{None, Ok, Option, Some}
use Rattle.std.specs.Option as option
use mathlib.Core.Path.{◌≡◌, refl, sym, ap, ◌∙◌}
use mathlib.Core.Bool.{Bool, true, false, ◌&&◌}
use mathlib.Core.List.{List, [], ◌∷◌}
use Prim.Native.Nat.{ℕ}
use Rattle.voice.specs.Voice.{Entry, Voice, is_some}
use Rattle.index.specs.declared.EntryPeriods.{EntryPeriods}
use Rattle.index.specs.Index.{found_of}
use Rattle.sheet.specs.declared.Places.{Places}
use Rattle.sheet.specs.Sheet.{SegmentRead, repeated, sheet_of}
use Rattle.sheet.specs.Answers.{segment_read}
use Rattle.sheet.specs.Places.{answer_in, sheet_places}
use Rattle.sheet.proofs.WalkLaws.{ahead_none}
use Rattle.sheet.proofs.ReadLaws.{sheet-ahead}
use Rattle.units.specs.declared.PairWalk.{PairWalk}
use Rattle.units.specs.Selecting.{folded_segment, folded, tried_entry, found_from, found_all}
use Rattle.units.specs.Walking.{coming, list_in, segments_at}
use Rattle.units.proofs.StepLaws.{folded-nil, folded-cons}
use Rattle.pairs.specs.Pairs.{tried_found}

module _ (v : Voice) (fold : Bool) (sheet : List ℕ) (count : ℕ) where
  abbrev find : SegmentRead → SegmentRead → Option Entry
  find = tried_entry v (folded fold (sheet_of sheet).segments)

  -- the pairs still to come find names
  abbrev pub found_coming : PairWalk → Bool
  found_coming w = found_from find (folded_segment fold (segment_read sheet w.left)) (folded fold (coming sheet count w))

  pub found_first : (w : PairWalk) → (sheet_of sheet).segments ≡ segment_read sheet w.left ∷ coming sheet count w
      → tried_found v fold (sheet_of sheet).segments ≡ found_coming w
  unfolding tried_found found_all
  found_first w e = ap (found_all find) (ap (folded fold) e ∙ folded-cons fold (segment_read sheet w.left) (coming sheet count w))

  pub found_none : (w : PairWalk) → w.remaining ≡ 0 → found_coming w ≡ true
  unfolding found_from repeated
  found_none w z =
      let left = folded_segment fold (segment_read sheet w.left) in
      ap (λ (n : ℕ). found_from find left (folded fold (list_in (segments_at sheet count n w.next)))) z ∙ ap (found_from find left) (folded-nil fold)

  -- the walk x comes after a pair of w
  module _ (w x : PairWalk) (n : coming sheet count w ≡ segment_read sheet x.left ∷ coming sheet count x) where
    abbrev pub tried : Option Entry
    tried = find (folded_segment fold (segment_read sheet w.left)) (folded_segment fold (segment_read sheet x.left))

    next : found_coming w ≡ (is_some tried && found_coming x)
    unfolding found_from
    next = ap (found_from find (folded_segment fold (segment_read sheet w.left))) (ap (folded fold) n ∙ folded-cons fold (segment_read sheet x.left) (coming sheet count x))

    -- by what the voice has under its names
    module _ (f : Option EntryPeriods) (e : f ≡ found_of tried) where
      by : (o : Option Entry) → is_some o ≡ option.is_some (found_of o)
      by None = refl
      by (Some y) = refl

      pub found-missing : option.is_some f ≡ false → found_coming w ≡ false
      found-missing m = next ∙ ap (λ (t : Bool). t && found_coming x) (by tried ∙ ap (λ (g : Option EntryPeriods). option.is_some g) (sym e) ∙ m)

      pub found-next : option.is_some f ≡ true → found_coming w ≡ found_coming x
      found-next m = next ∙ ap (λ (t : Bool). t && found_coming x) (by tried ∙ ap (λ (g : Option EntryPeriods). option.is_some g) (sym e) ∙ m)

-- a sheet without segments has no pair
pub found-empty : (v : Voice) (fold : Bool) (sheet : List ℕ) (p : Places) → answer_in (sheet_places sheet) ≡ Ok p → p.segments.count ≡ 0
    → tried_found v fold (sheet_of sheet).segments ≡ true
unfolding tried_found found_all
found-empty v fold sheet p e z =
    let empty : folded fold (sheet_of sheet).segments ≡ [] = ap (folded fold) (ahead_none _ sheet _ _ _ z (sheet-ahead sheet p e).segments) ∙ folded-nil fold in
    rw empty
