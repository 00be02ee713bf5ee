-- Document 02, A8, by the makers: 'in the simple join each mark goes to the unit whose period made it'.
use Rattle.std.specs.Prelude.{List, [], ◌∷◌, ℕ}
use Rattle.voice.specs.Voice.{Voice}
use Rattle.units.specs.declared.Unit.{Unit}
use Rattle.units.specs.Units.{ending_at}
use Rattle.marks.specs.NaturalMarks.{period_count, marks_of_periods, place_after_unit}
use Rattle.excitation.specs.Shares.{Share}

-- units that end where they naturally do, the first of which begins at a place, each with the marks that its own periods made
unfoldable pub makers_shares : Voice → ℕ → List Unit → List Share
makers_shares v place [] = []
makers_shares v place (u ∷ us) =
    let end = place_after_unit v place u in
    record { unit = ending_at u end; end_before = place; mark = place; marks = marks_of_periods v place u.first_period (period_count u) }
    ∷ makers_shares v end us
