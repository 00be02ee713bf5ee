-- Document 01, 'Selecting and marking', and document 02, A8: which marks each unit takes.
use Rattle.std.specs.Prelude.{Bool, true, false, List, [], ◌∷◌, ℕ, ◌-◌, min, ltb, length, take, drop}
use Rattle.base.specs.Choice.{pick}
use Rattle.base.specs.Buffers.{flat}
use Rattle.units.specs.declared.Unit.{Unit}
use Rattle.marks.specs.NaturalMarks.{period_count}
use Rattle.marks.specs.Checking.{last_of, up_to}

-- ---- how many of the marks that are left a unit takes

-- 'Per unit, the marks not yet taken and not above the target end are taken in order.'
unfoldable pub up_to_end : Unit → List ℕ → ℕ
up_to_end u ms = length (up_to u.target_end ms)

-- document 02, A8: 'in the simple join each mark goes to the unit whose period made it'. A unit takes one for each of its periods, as far as
-- there are marks.
unfoldable pub own_periods : Unit → List ℕ → ℕ
own_periods u ms = min (period_count u) (length ms)

-- by whether the join is the simple one, in which units end where they naturally do
unfoldable pub share_count : Bool → Unit → List ℕ → ℕ
share_count natural u ms = pick natural (own_periods u ms) (up_to_end u ms)

-- ---- the shares

-- a unit's share: the target end of the unit before it and the last mark taken before it (0 at first), and the marks it takes
pub record Share : Type 0 where
  pub unit : Unit
  pub end_before : ℕ
  pub mark : ℕ
  pub marks : List ℕ

-- of the marks that are left
abbrev pub share_of : Bool → ℕ → ℕ → Unit → List ℕ → Share
share_of natural end_before mark u ms = record { unit = u; end_before = end_before; mark = mark; marks = take (share_count natural u ms) ms }

-- unit after unit
unfoldable pub shares_from : Bool → ℕ → ℕ → List Unit → List ℕ → List Share
shares_from natural end_before mark [] ms = []
shares_from natural end_before mark (u ∷ us) ms =
    let s = share_of natural end_before mark u ms in
    s ∷ shares_from natural u.target_end (last_of mark s.marks) us (drop (share_count natural u ms) ms)

-- 'Fewer than two marks give zero periods'
unfoldable pub shares : Bool → List Unit → List ℕ → List Share
shares natural us ms = elim (ltb (length ms) 2) [ true ↦ [] | false ↦ shares_from natural 0 0 us ms ]

-- ---- the marks taken, in order, and the sizes that they give

unfoldable pub marks_taken : List Share → List ℕ
marks_taken ss = flat (λ (s : Share). s.marks) ss

-- 'its mark less the mark before it'
unfoldable pub sizes_from : ℕ → List ℕ → List ℕ
sizes_from mark [] = []
sizes_from mark (m ∷ ms) = (m - mark) ∷ sizes_from m ms
