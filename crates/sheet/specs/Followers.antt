-- A follower names a segment by its number.
use Rattle.std.specs.Prelude.{ℕ, zero, suc, List, [], ◌∷◌}
use Rattle.sheet.specs.Sheet.{SegmentRead}

-- the name of the segment with a number from 1; no name for 0
unfoldable pub name_of : List SegmentRead → ℕ → List ℕ
name_of ss zero = []
name_of [] (suc n) = []
name_of (s ∷ ss) (suc zero) = s.name
name_of (s ∷ ss) (suc (suc n)) = name_of ss (suc n)
