-- The examples, computed.
use mathlib.Core.Path.{◌≡◌, refl}
use mathlib.Core.Bool.{Bool, true, false}
use mathlib.Core.List.{[], ◌∷◌}
use Rattle.text.specs.Names.{same, among}
use Rattle.phoneset.specs.Phones.{vowels, consonants, vc, is_vowel}
use Rattle.voice.specs.Voice.{Voice, lookup}
use Rattle.sheet.specs.Sheet.{SegmentRead}
use Rattle.sheet.specs.Followers.{name_of}
use Rattle.units.specs.Selecting.{fold_name, folded, in_cluster, first_tried, found_from, found_all}
use Rattle.pairs.specs.Pairs.{tried_found}
use Rattle.pairs.specs.Examples.{Examples}

pub computed : Examples
unfolding tried_found found_all found_from first_tried in_cluster folded fold_name name_of is_vowel vc vowels consonants among same lookup
computed =
    record {
      by_cluster = λ v e. rw e refl;
      by_plain = λ v e. rw e refl;
      by_neither = λ v e. rw e refl;
      plain = λ v e. rw e refl;
      plain_alone = λ v e. rw e refl;
      folds = λ v e. rw e refl;
      folds_away = λ v e. rw e refl;
      unfolded = λ v e. rw e refl;
      last = λ v e. rw e refl;
      none = none_found;
      one = one_found;
    }
  where
    none_found : (v : Voice) (fold : Bool) → tried_found v fold [] ≡ true
    none_found v true = refl
    none_found v false = refl

    one_found : (v : Voice) (fold : Bool) (s : SegmentRead) → tried_found v fold (s ∷ []) ≡ true
    one_found v true s = refl
    one_found v false s = refl
