-- Pairs that find a name and pairs that do not, in any voice with such entries.
use Rattle.std.specs.Prelude.{◌≡◌, Bool, true, false, List, [], ◌∷◌, ℕ}
use Rattle.base.specs.Text.{ascii}
use Rattle.voice.specs.Voice.{Voice, Placed}
use Rattle.sheet.specs.declared.Value.TheVariants.{Absent}
use Rattle.sheet.specs.Sheet.{SegmentRead}
use Rattle.pairs.specs.Pairs.{tried_found}

abbrev pub segment : List ℕ → ℕ → SegmentRead
segment name follower = record { name = name; end = Absent; follower = follower }

abbrev pub entry : List ℕ → Placed
entry name = record { at = 0; entry = record { name = name; start = 0; first = 0; second = 0 } }

-- `s` and `t` in one syllable, which try `s_-_t` and then `s-t`, and in two, which try `s-t` alone
abbrev pub cluster : List SegmentRead
cluster = segment (ascii "s") 2 ∷ segment (ascii "t") 0 ∷ []

abbrev pub apart : List SegmentRead
apart = segment (ascii "s") 0 ∷ segment (ascii "t") 0 ∷ []

-- `ah` and `t`, whose `ah` is folded or not
abbrev pub vowel : List SegmentRead
vowel = segment (ascii "ah") 0 ∷ segment (ascii "t") 0 ∷ []

-- what a voice with one entry says of some segments
abbrev pub With : List ℕ → Bool → List SegmentRead → Bool → Type 0
With name fold ss found = (v : Voice) → v.entries ≡ entry name ∷ [] → tried_found v fold ss ≡ found

pub record Examples : Type 0 where
  -- a cluster passes by either name
  pub by_cluster : With (ascii "s_-_t") false cluster true
  pub by_plain : With (ascii "s-t") false cluster true
  pub by_neither : With (ascii "t-s") false cluster false
  -- another pair by its plain name alone
  pub plain : With (ascii "s-t") false apart true
  pub plain_alone : With (ascii "s_-_t") false apart false
  -- 'after folding'
  pub folds : With (ascii "aa-t") true vowel true
  pub folds_away : With (ascii "ah-t") true vowel false
  pub unfolded : With (ascii "ah-t") false vowel true
  -- the last of two pairs
  pub last : With (ascii "s-t") false (segment (ascii "s") 0 ∷ segment (ascii "t") 0 ∷ segment (ascii "s") 0 ∷ []) false
  -- fewer than two segments are no pair
  pub none : (v : Voice) (fold : Bool) → tried_found v fold [] ≡ true
  pub one : (v : Voice) (fold : Bool) (s : SegmentRead) → tried_found v fold (s ∷ []) ≡ true
