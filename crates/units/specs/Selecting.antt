-- Document 01, 'Selecting and marking': the entry of each adjacent pair of segments.
use Rattle.std.specs.Prelude.{Bool, true, false, ◌&&◌, not, List, [], ◌∷◌, ◌++◌, map, ℕ, None, Option, Some}
use Rattle.base.specs.Choice.{pick}
use Rattle.base.specs.Text.{ascii}
use Rattle.base.specs.Lists.{or_next}
use Rattle.text.specs.Names.{same}
use Rattle.voice.specs.Voice.{Entry, Voice, lookup, is_some, sorted}
use Rattle.index.specs.Index.{first_of}
use Rattle.phoneset.specs.Phones.{vc, is_vowel, is_minus}
use Rattle.sheet.specs.Sheet.{SegmentRead}
use Rattle.sheet.specs.Followers.{name_of}

-- ---- fold on: 'ah' becomes 'aa'

unfoldable pub fold_name : List ℕ → List ℕ
fold_name n = pick (same n (ascii "ah")) (ascii "aa") n

-- with fold on or off
abbrev pub folded_name : Bool → List ℕ → List ℕ
folded_name fold n = pick fold (fold_name n) n

abbrev pub fold_segment : SegmentRead → SegmentRead
fold_segment s = record { name = fold_name s.name; end = s.end; follower = s.follower }

abbrev pub folded_segment : Bool → SegmentRead → SegmentRead
folded_segment fold s = record { name = folded_name fold s.name; end = s.end; follower = s.follower }

unfoldable pub folded : Bool → List SegmentRead → List SegmentRead
folded false ss = ss
folded true ss = map fold_segment ss

-- ---- the names that a pair tries

-- 'the left phone is no vowel and its follower's `vc` is `-`'; ss has all segments
unfoldable pub in_cluster : List SegmentRead → SegmentRead → Bool
in_cluster ss left = not (is_vowel left.name) && is_minus (vc (name_of ss left.follower))

-- `left_-_right` and `left-right`
abbrev pub cluster_name : List ℕ → List ℕ → List ℕ
cluster_name left right = left ++ (ascii "_-_" ++ right)

abbrev pub plain_name : List ℕ → List ℕ → List ℕ
plain_name left right = left ++ (ascii "-" ++ right)

-- the one for a cluster, else the other
abbrev pub joint : Bool → List ℕ
joint cluster = pick cluster (ascii "_-_") (ascii "-")

abbrev pub pair_name : Bool → List ℕ → List ℕ → List ℕ
pair_name cluster left right = left ++ (joint cluster ++ right)

-- 'The first name a pair tries, after folding, is its first-tried name'
unfoldable pub first_tried : List SegmentRead → SegmentRead → SegmentRead → List ℕ
first_tried ss left right = pick (in_cluster ss left) (cluster_name left.name right.name) (plain_name left.name right.name)

-- ---- the entry of a pair

abbrev pub or_else : Option Entry → Entry → Entry
or_else None d = d
or_else (Some e) d = e

-- the entry of its first-tried name
abbrev pub first_entry : Voice → List SegmentRead → SegmentRead → SegmentRead → Option Entry
first_entry v ss left right = lookup (first_tried ss left right) v.entries

-- the entry found by a name that the pair tries: 'try `left_-_right`; then `left-right`'
abbrev pub tried_entry : Voice → List SegmentRead → SegmentRead → SegmentRead → Option Entry
tried_entry v ss left right = or_next (first_entry v ss left right) (lookup (plain_name left.name right.name) v.entries)

-- 'then the sorted first entry'
unfoldable pub entry_of : Voice → List SegmentRead → SegmentRead → SegmentRead → Entry
entry_of v ss left right = or_else (tried_entry v ss left right) (first_of (sorted v))

-- ---- each pair finds an entry, by such a look-up

unfoldable pub found_from : (SegmentRead → SegmentRead → Option Entry) → SegmentRead → List SegmentRead → Bool
found_from find left [] = true
found_from find left (right ∷ rs) = is_some (find left right) && found_from find right rs

unfoldable pub found_all : (SegmentRead → SegmentRead → Option Entry) → List SegmentRead → Bool
found_all find [] = true
found_all find (s ∷ rs) = found_from find s rs

-- 'each pair of the first sheet finds its first-tried name in the first voice'
unfoldable pub first_tried_found : Voice → Bool → List SegmentRead → Bool
first_tried_found v fold ss = found_all (first_entry v (folded fold ss)) (folded fold ss)
